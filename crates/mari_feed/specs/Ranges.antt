-- Which conflicts a text may have, and which blocks but for their trees.
use Rattle.std.specs.Prelude.{◌≤◌}
use Rattle.mari_market.specs.declared.certificate.Conflict.{Conflict}
use Rattle.mari_market.specs.declared.certificate.Leaf.TheVariants as leaf
use Rattle.mari_market.specs.declared.certificate.TreeItem.TheVariants as item
use Rattle.mari_lines.specs.Ranges.{InRange, IsAmountLine, IsMoneyLine, Listed}
use Rattle.mari_lines.specs.declared.line.Line.TheVariants as line
use Rattle.mari_publish.specs.Ranges.{ItemFits}
use Rattle.mari_publish.specs.declared.publication.FullBlock.{FullBlock}
use Rattle.mari_units.specs.declared.limits.TheConstants.{MOST_BIDS, MOST_BORDERS, MOST_DEMANDS, MOST_MW, MOST_ZONES}

-- a conflict as an item of a certificate tree
abbrev pub ConflictFits : Conflict → Type 0
ConflictFits conflict = ItemFits (item.Leaf (leaf.Conflict conflict))

-- the numbers of a block are in range, and no kind of line comes too often; nothing is said of its tree
pub record FitsButTree (b : FullBlock) : Type 0 where
  pub heading : InRange (line.Run b.heading)
  pub welfare : InRange (line.Welfare b.welfare)
  pub zones : Listed 1 MOST_ZONES (λ z. InRange (line.Zone z)) b.zones
  pub borders : Listed 0 MOST_BORDERS (λ x. InRange (line.Border x)) b.borders
  pub bids : Listed 0 MOST_BIDS (λ x. InRange (line.Bid x)) b.bids
  pub demands : Listed 0 MOST_DEMANDS (λ mw. mw ≤ MOST_MW) b.demands
  pub operators : Listed 1 MOST_ZONES IsMoneyLine b.operators
  pub providers : Listed 0 MOST_BIDS IsAmountLine b.providers
