-- How many lines there may be, and that they are in range: which publications have a text.
use Rattle.std.specs.Prelude.{◌≤◌, List, length}
use Rattle.std.specs.List.{All, AllByRecursion}
use Rattle.mari_market.specs.declared.certificate.TreeItem.{TreeItem}
use Rattle.mari_lines.specs.declared.line.AmountLine.{AmountLine}
use Rattle.mari_lines.specs.declared.line.Line.TheVariants as line
use Rattle.mari_lines.specs.declared.line.MoneyLine.{MoneyLine}
use Rattle.mari_lines.specs.Ranges.{InRange, IsAmountLine, IsMoneyLine, Listed}
use Rattle.mari_publish.specs.declared.publication.FullBlock.{FullBlock}
use Rattle.mari_publish.specs.declared.publication.Block.{Block}
use Rattle.mari_publish.specs.declared.publication.Block.TheVariants as block
use Rattle.mari_publish.specs.declared.publication.Part.{Part}
use Rattle.mari_publish.specs.declared.publication.Part.TheVariants as part
use Rattle.mari_publish.specs.declared.publication.Publication.{Publication}
use Rattle.mari_publish.specs.Lines.{item_lines}
use Rattle.mari_units.specs.declared.limits.TheConstants.{MOST_BIDS, MOST_BORDERS, MOST_DEMANDS, MOST_MW, MOST_NODES, MOST_PROVIDERS, MOST_RUNS, MOST_ZONES}

-- the lines of an item are in range
abbrev pub ItemFits : TreeItem → Type 0
ItemFits item = AllByRecursion InRange (item_lines item)

-- the numbers of a published run are in range, and no kind of line comes too often
pub record FullFits (b : FullBlock) : Type 0 where
  pub heading : InRange (line.Run b.heading)
  pub welfare : InRange (line.Welfare b.welfare)
  pub zones : Listed 1 MOST_ZONES (λ z. InRange (line.Zone z)) b.zones
  pub borders : Listed 0 MOST_BORDERS (λ x. InRange (line.Border x)) b.borders
  pub bids : Listed 0 MOST_BIDS (λ x. InRange (line.Bid x)) b.bids
  pub demands : Listed 0 MOST_DEMANDS (λ mw. mw ≤ MOST_MW) b.demands
  pub tree : Listed 1 MOST_NODES ItemFits b.tree
  pub operators : Listed 1 MOST_ZONES IsMoneyLine b.operators
  pub providers : Listed 0 MOST_BIDS IsAmountLine b.providers

-- the same of the lines of its market alone
pub record MarketFits (b : FullBlock) : Type 0 where
  pub borders : Listed 0 MOST_BORDERS (λ x. InRange (line.Border x)) b.borders
  pub demands : Listed 0 MOST_DEMANDS (λ mw. mw ≤ MOST_MW) b.demands

-- and of its last lines: its operators and its providers
pub record EndingFits (b : FullBlock) : Type 0 where
  pub operators : Listed 1 MOST_ZONES IsMoneyLine b.operators
  pub providers : Listed 0 MOST_BIDS IsAmountLine b.providers

abbrev pub BlockFits : Block → Type 0
BlockFits (block.Published b) = FullFits b
BlockFits (block.Unpublished heading count) = InRange (line.Unpublished heading count)

-- the same of the closing lines
pub record TotalsFit (p : Publication) : Type 0 where
  pub runs : length p.blocks ≤ MOST_RUNS
  pub operators : Listed 1 MOST_ZONES IsMoneyLine p.operators
  pub providers : Listed 0 MOST_PROVIDERS IsAmountLine p.providers

-- the same of the whole: the publication has a text
pub record HasText (p : Publication) : Type 0 where
  pub head : InRange (line.Head p.date p.quarters p.budget)
  pub blocks : All BlockFits p.blocks
  pub totals : TotalsFit p

-- the same of the sums of the operators and of the providers, and of one part of a publication
abbrev pub SumsFit : List MoneyLine → List AmountLine → Type 0
SumsFit operators providers = Listed 1 MOST_ZONES IsMoneyLine operators × Listed 0 MOST_PROVIDERS IsAmountLine providers

abbrev pub PartFits : Part → Type 0
PartFits (part.Head date quarters budget) = InRange (line.Head date quarters budget)
PartFits (part.Block b) = BlockFits b
PartFits (part.Totals operators providers) = SumsFit operators providers
