-- The text of a day of the second form: that of its lines.
use Rattle.std.specs.Prelude.{ℕ, List, ◌∷◌, ◌++◌, length, map, slice_index_or}
use Rattle.mari_rows.specs.Names.{name_at}
use Rattle.mari_lines.specs.declared.line.Line.TheVariants as line
use Rattle.mari_publish.specs.Lines.{closing_lines_by, ending_lines, market_lines}
use Rattle.mari_publish.specs.Texts.{text_of_lines}
use Rattle.mari_remain.specs.declared.books.Books.{Books}
use Rattle.mari_progress.specs.Totals.{operator_totals, provider_totals}
use Rattle.mari_day.specs.Frame.{part_text_by}
use Rattle.mari_reach.specs.declared.decisions.Choice.{Choice}
use Rattle.mari_reach.specs.declared.decisions.Choice.TheVariants.{OfGate, OfPrice}
use Rattle.mari_reach.specs.declared.decisions.ReachItem.{ReachItem}
use Rattle.mari_reach.specs.declared.decisions.ReachItem.TheVariants as item
use Rattle.mari_reach.specs.declared.decisions.ReachLeaf.{ReachLeaf}
use Rattle.mari_reach.specs.declared.decisions.ReachLeaf.TheVariants.{Void, Bound, Cut}
use Rattle.mari_reach_lines.specs.Spelling.{reach_line_text, text_of_reach_lines}
use Rattle.mari_reach_lines.specs.declared.line.ReachLine.{ReachLine}
use Rattle.mari_reach_lines.specs.declared.line.ReachLine.TheVariants as reach
use Rattle.mari_reach_day.specs.declared.block.ReachBlock.{ReachBlock}
use Rattle.mari_reach_day.specs.Reach.{blocks_of, first_in, within_in}

-- the first line: the form, the date, the quarters and the budget
abbrev pub reach_head : (date : List ℕ) → (quarters budget : ℕ) → List ℕ
reach_head date quarters budget = reach_line_text (reach.Head date quarters budget)

-- a choice: the bid whose gate is decided, or the zone whose price is, and the price
abbrev pub choice_line : Books → (gated : List ℕ) → Choice → ReachLine
choice_line books gated (OfGate gate) = reach.Branch (name_at books.bids.ids (slice_index_or gated gate 0))
choice_line books gated (OfPrice zone price) = reach.Price (name_at books.zones.zones zone) price

-- a leaf
abbrev pub leaf_line : ReachLeaf → ReachLine
leaf_line Void = reach.Void
leaf_line (Bound potentials) = reach.Shared (line.Bound potentials.cents)
leaf_line (Cut cut) = reach.Shared (line.Cut cut)

-- an item of a tree has one line
abbrev pub item_line : Books → (gated : List ℕ) → ReachItem → ReachLine
item_line books gated (item.Branch choice) = choice_line books gated choice
item_line books gated (item.Leaf leaf) = leaf_line leaf

-- a tree: how many items it has, and the items
abbrev pub reach_tree_lines : Books → (gated : List ℕ) → List ReachItem → List ReachLine
reach_tree_lines books gated tree = reach.Shared (line.Tree (length tree)) ∷ map (item_line books gated) tree

-- a run: its line, its welfare and its market, the tree, and its last lines as in a publication
abbrev pub reach_block_lines : Books → ReachBlock → List ReachLine
reach_block_lines books r =
    reach.Run r.block.heading r.claim ∷ reach.Shared (line.Welfare r.block.welfare) ∷ (map reach.Shared (market_lines r.block)
    ++ (reach_tree_lines books r.gated r.tree ++ map reach.Shared (ending_lines r.block)))

abbrev pub reach_block_text : Books → ReachBlock → List ℕ
reach_block_text books r = text_of_reach_lines (reach_block_lines books r)

-- the text of a day part: the first line and the blocks
abbrev pub reach_part_text : Books → (budget : ℕ) → List ReachBlock → List ℕ
reach_part_text books budget blocks = part_text_by (reach_head books.date books.quarters budget) (reach_block_text books) blocks

-- the last lines: the totals, and how many runs have the first activation, and how many one within a gap
abbrev pub reach_end : Books → List ReachBlock → List ℕ
reach_end books blocks =
    text_of_lines (closing_lines_by (operator_totals books (blocks_of blocks)) (provider_totals books (blocks_of blocks)) (first_in blocks) (within_in blocks))

-- the text of a day
abbrev pub reach_text : Books → (budget : ℕ) → List ReachBlock → List ℕ
reach_text books budget blocks = reach_part_text books budget blocks ++ reach_end books blocks
