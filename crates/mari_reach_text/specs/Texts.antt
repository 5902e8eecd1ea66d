-- What the text of a day of the second form says, its lines in their order, and its parts.
use Rattle.std.specs.Prelude.{◌≡◌, ◌≤◌, ℕ, List, [], ◌∷◌, ◌++◌, length, map}
use Rattle.std.specs.List.{All, flat_map}
use Rattle.mari_units.specs.declared.limits.TheConstants.{MOST_BIDS, MOST_BORDERS, MOST_DEMANDS, MOST_MW, MOST_NODES, MOST_RUNS, MOST_ZONES}
use Rattle.mari_lines.specs.Ranges.{InRange, IsAmountLine, IsMoneyLine, Listed}
use Rattle.mari_lines.specs.declared.line.AmountLine.{AmountLine}
use Rattle.mari_lines.specs.declared.line.Line.TheVariants as line
use Rattle.mari_lines.specs.declared.line.MoneyLine.{MoneyLine}
use Rattle.mari_publish.specs.Lines.{closing_lines_by, ending_lines, market_lines}
use Rattle.mari_publish.specs.Ranges.{SumsFit}
use Rattle.mari_reach_lines.specs.Ranges.{IsClaim, ReachInRange}
use Rattle.mari_reach_lines.specs.Spelling.{text_of_reach_lines}
use Rattle.mari_reach_lines.specs.declared.line.ReachLine.{ReachLine}
use Rattle.mari_reach_lines.specs.declared.line.ReachLine.TheVariants as reach
use Rattle.mari_reach_text.specs.Claims.{first_among, within_among}
use Rattle.mari_reach_text.specs.declared.kept.ReachPart.{ReachPart}
use Rattle.mari_reach_text.specs.declared.kept.ReachPart.TheVariants as parts
use Rattle.mari_reach_text.specs.declared.named.NamedBlock.{NamedBlock}
use Rattle.mari_reach_text.specs.declared.named.NamedItem.{NamedItem}
use Rattle.mari_reach_text.specs.declared.named.NamedItem.TheVariants as named

-- what a text says: the head, a block for each run, and the totals
pub record ReachPublication : Type 0 where
  pub date : List ℕ
  pub quarters : ℕ
  pub budget : ℕ
  pub blocks : List NamedBlock
  pub operators : List MoneyLine
  pub providers : List AmountLine

-- the line of an item
abbrev pub named_line : NamedItem → ReachLine
named_line (named.Gate bid) = reach.Branch bid
named_line (named.Price zone price) = reach.Price zone price
named_line named.Void = reach.Void
named_line (named.Bound potentials) = reach.Shared (line.Bound potentials.cents)
named_line (named.Cut cut) = reach.Shared (line.Cut cut)

-- a tree: how many items it has, and the items
abbrev pub named_tree_lines : List NamedItem → List ReachLine
named_tree_lines tree = reach.Shared (line.Tree (length tree)) ∷ map named_line tree

-- a block: its run's line, its welfare and its market, the tree, and its last lines as in the first form
abbrev pub named_block_lines : NamedBlock → List ReachLine
named_block_lines b =
    reach.Run b.block.heading b.claim ∷ reach.Shared (line.Welfare b.block.welfare) ∷ (map reach.Shared (market_lines b.block)
    ++ (named_tree_lines b.tree ++ map reach.Shared (ending_lines b.block)))

-- the last lines: the totals, and how many runs state the first activation, and how many one within a gap
abbrev pub reach_closing_lines : ReachPublication → List ReachLine
reach_closing_lines p = map reach.Shared (closing_lines_by p.operators p.providers (first_among p.blocks) (within_among p.blocks))

-- all lines: the head and the blocks, and the last ones
abbrev pub reach_lines_of : ReachPublication → List ReachLine
reach_lines_of p = (reach.Head p.date p.quarters p.budget ∷ flat_map named_block_lines p.blocks) ++ reach_closing_lines p

-- the parts
abbrev pub reach_parts_of : ReachPublication → List ReachPart
reach_parts_of p = (parts.Head p.date p.quarters p.budget ∷ map parts.Block p.blocks) ++ parts.Totals p.operators p.providers ∷ []

-- the numbers of a block are in range, and no kind of line comes too often; it has no tree of the first form
pub record NamedFits (b : NamedBlock) : Type 0 where
  pub heading : InRange (line.Run b.block.heading)
  pub claim : IsClaim b.claim
  pub welfare : InRange (line.Welfare b.block.welfare)
  pub zones : Listed 1 MOST_ZONES (λ z. InRange (line.Zone z)) b.block.zones
  pub borders : Listed 0 MOST_BORDERS (λ x. InRange (line.Border x)) b.block.borders
  pub bids : Listed 0 MOST_BIDS (λ x. InRange (line.Bid x)) b.block.bids
  pub demands : Listed 0 MOST_DEMANDS (λ mw. mw ≤ MOST_MW) b.block.demands
  pub no_tree : b.block.tree ≡ []
  pub tree : Listed 1 MOST_NODES (λ i. ReachInRange (named_line i)) b.tree
  pub operators : Listed 1 MOST_ZONES IsMoneyLine b.block.operators
  pub providers : Listed 0 MOST_BIDS IsAmountLine b.block.providers

-- the same of the whole
pub record ReachHasText (p : ReachPublication) : Type 0 where
  pub head : ReachInRange (reach.Head p.date p.quarters p.budget)
  pub blocks : All NamedFits p.blocks
  pub runs : length p.blocks ≤ MOST_RUNS
  pub totals : SumsFit p.operators p.providers

-- the text of a day of the second form
pub record IsReachText (text : List ℕ) (p : ReachPublication) : Type 0 where
  pub has : ReachHasText p
  pub is : text ≡ text_of_reach_lines (reach_lines_of p)
