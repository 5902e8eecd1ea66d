-- The summary of a generated day.
use Rattle.std.specs.Prelude.{ℕ, ◌+◌, ◌≡◌, List, [], ◌∷◌, ◌++◌, length}
use lib.Chars.{codes}
use Rattle.std.specs.Fmt.{decimal}
use Rattle.std.specs.List.{flat_map}
use Rattle.mari_publish.specs.declared.publication.Block.{Block}
use Rattle.mari_publish.specs.declared.publication.Block.TheVariants as block
use Rattle.mari_publish.specs.declared.publication.Publication.{Publication}
use Rattle.mari_publish.specs.Lines.{unpublished_in}
use Rattle.mari_remain.specs.declared.books.Books.{Books}
use Rattle.mari_day.specs.Day.{IsDay}
use Rattle.mari_day.specs.Reading.{HasBooks}
use Rattle.mari_scenario.specs.Accepted.{IsOfDaySize}
use Rattle.mari_scenario.specs.Pages.{scenario_at}
use Rattle.mari_words.specs.declared.command.TheConstants.{USUAL_NODES}

-- the welfare of a block; one that isn't published has none
abbrev pub welfare_in : Block → ℕ
welfare_in (block.Published b) = b.welfare
welfare_in (block.Unpublished heading count) = 0

-- the sum of the welfares of blocks
unfoldable pub welfare_sum : List Block → ℕ
welfare_sum [] = 0
welfare_sum (b ∷ blocks) = welfare_in b + welfare_sum blocks

-- a number's line after a word
abbrev pub number_line : List ℕ → ℕ → List ℕ
number_line word n = word ++ decimal n ++ 10 ∷ []

-- the line of a published block
abbrev pub run_line : Block → List ℕ
run_line (block.Published b) = codes "run " ++ decimal b.heading.run ++ number_line (codes " welfare ") b.welfare
run_line (block.Unpublished heading count) = []

-- the numbers of a generated day and of its zones, borders, bids and runs
abbrev pub heading_line : ℕ → Books → List ℕ
heading_line number books =
    codes "generated " ++ decimal number
    ++ codes " zones " ++ decimal (length books.zones.zones)
    ++ codes " borders " ++ decimal (length books.borders.borders)
    ++ codes " bids " ++ decimal (length books.bids.bids)
    ++ number_line (codes " runs ") (length books.runs.runs)

-- the summary of a day of these books: the numbers, the welfare of each run, and their sum
abbrev pub summary_of : ℕ → Books → List Block → List ℕ
summary_of number books blocks = heading_line number books ++ flat_map run_line blocks ++ number_line (codes "sum ") (welfare_sum blocks)

-- the text is the summary of a day of the pages that a number generates, cleared with the usual budget of nodes: of
-- eight zones, ten borders, 960 bids and 24 runs, every one of which is published
pub record IsGenerated (number : ℕ) (text : List ℕ) : Type 0 where
  pub books : Books
  pub gives : HasBooks (scenario_at number) (codes "s") books
  pub sized : IsOfDaySize books.zones books.borders books.bids books.runs
  pub publication : Publication
  pub is_day : IsDay books USUAL_NODES publication
  pub published : unpublished_in publication.blocks ≡ 0
  pub printed : text ≡ summary_of number books publication.blocks
