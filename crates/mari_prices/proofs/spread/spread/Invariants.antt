use Rattle.std.proofs.Common.{◌≡◌, ◌≤◌, length}
use Rattle.mari_market.specs.Along.{LeadsTo}
use Rattle.mari_market.specs.Sums.{int_at}
use Rattle.mari_prices.specs.Spread.{IsSpreading, NoneOverBefore, free_zones}
use Rattle.mari_prices.proofs.spread.spread.Given as goal

abbrev pub invariant-loop-next : goal.invariant-loop-next
invariant-loop-next l = record {
  long : length l.settled.items ≡ length l.values;
  spreading : IsSpreading (LeadsTo l.along l.borders l.flow) (int_at l.values) l.settled.items;
  first : l.first ≤ length l.borders;
  before : NoneOverBefore l.along l.borders l.flow l.settled.items l.first;
}

abbrev pub decreases-loop-next : goal.decreases-loop-next
decreases-loop-next l = free_zones l.settled.items
