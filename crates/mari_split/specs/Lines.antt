-- The text of a day whose runs are cleared island by island. Lines that a publication has too are spelled as there.
use Rattle.std.specs.Prelude.{ℕ, ◌+◌, List, [], ◌∷◌, ◌++◌, false, map}
use lib.Chars.{codes}
use Rattle.std.specs.Fmt.{decimal}
use Rattle.mari_day.specs.Frame.{part_text_by}
use Rattle.mari_rows.specs.Names.{name_at}
use Rattle.mari_market.specs.declared.clearing.Clearing.{Clearing}
use Rattle.mari_lines.specs.Spelling.{heading_fields, published_text, spaced}
use Rattle.mari_lines.specs.declared.line.Heading.{Heading}
use Rattle.mari_lines.specs.declared.line.Line.TheVariants as line
use Rattle.mari_publish.specs.Lines.{market_lines, opening_lines, published_in, tree_lines, unpublished_in}
use Rattle.mari_publish.specs.Texts.{text_of_lines, words_line}
use Rattle.mari_remain.specs.declared.books.Books.{Books}
use Rattle.mari_islands.specs.declared.islands.Island.{Island}
use Rattle.mari_split.specs.declared.split.SplitBlock.{SplitBlock}
use Rattle.mari_split.specs.declared.split.SplitBlock.TheVariants as split
use Rattle.mari_split.specs.declared.split.SplitRun.{SplitRun}
use Rattle.mari_split.specs.Split.{blocks_of}

-- the first line: the form, the date, the quarters and the budget
abbrev pub split_head : (date : List ℕ) → (quarters budget : ℕ) → List ℕ
split_head date quarters budget = words_line (codes "split") (codes "1" ∷ date ∷ decimal quarters ∷ decimal budget ∷ [])

-- an island: its number from 1 with its welfare, the names of its zones, and its tree, in which zones and gates have
-- their numbers within the island
abbrev pub island_text : (names : List (List ℕ)) → (number : ℕ) → Island → Clearing → List ℕ
island_text names number i c =
    words_line (codes "island") (decimal number ∷ decimal c.welfare ∷ [])
    ++ (words_line (codes "zones") (map (name_at names) i.zones) ++ text_of_lines (tree_lines c.tree))

-- the islands from this number on, each with its clearing
abbrev pub islands_text : (names : List (List ℕ)) → (number : ℕ) → List Island → List Clearing → List ℕ
islands_text names number [] clearings = []
islands_text names number (i ∷ islands) [] = []
islands_text names number (i ∷ islands) (c ∷ clearings) = island_text names number i c ++ islands_text names (number + 1) islands clearings

-- a published run: its heading, its welfare and its market as in a publication, its islands, and its number once more
abbrev pub split_run_text : (names : List (List ℕ)) → SplitRun → List ℕ
split_run_text names r =
    text_of_lines (opening_lines r.block) ++ (text_of_lines (market_lines r.block)
    ++ (islands_text names 1 r.islands r.clearings ++ text_of_lines (line.End r.block.heading.run ∷ [])))

-- one that isn't: its heading, the island for which the budget is spent, and how many nodes were made
abbrev pub unpublished_text : Heading → (island count : ℕ) → List ℕ
unpublished_text heading island count =
    codes "run" ++ spaced (heading_fields heading) ++ spaced (published_text false ∷ decimal island ∷ decimal count ∷ []) ++ 10 ∷ []

-- the text of a block
abbrev pub split_block_text : (names : List (List ℕ)) → SplitBlock → List ℕ
split_block_text names (split.Published r) = split_run_text names r
split_block_text names (split.Unpublished heading island count) = unpublished_text heading island count

-- the text of a day part: the first line and the blocks
abbrev pub split_part_text : Books → (budget : ℕ) → List SplitBlock → List ℕ
split_part_text books budget blocks = part_text_by (split_head books.date books.quarters budget) (split_block_text books.zones.zones) blocks

-- the last line: how many runs are published, and how many aren't
abbrev pub split_end : List SplitBlock → List ℕ
split_end blocks = text_of_lines (line.Done (published_in (blocks_of blocks)) (unpublished_in (blocks_of blocks)) ∷ [])

-- the text of a day
abbrev pub split_text : Books → (budget : ℕ) → List SplitBlock → List ℕ
split_text books budget blocks = split_part_text books budget blocks ++ split_end blocks
