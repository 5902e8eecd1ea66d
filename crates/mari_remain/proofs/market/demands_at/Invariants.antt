use Rattle.std.proofs.Common.{◌≡◌, ◌++◌, drop, map}
use Rattle.mari_remain.specs.Lists.{demand_at}
use Rattle.mari_remain.proofs.market.demands_at.Given as goal

-- with those still to come it is the whole
abbrev pub invariant-loop-number : goal.invariant-loop-number
invariant-loop-number l = l.own.items ++ map (demand_at l.demands) (drop l.number-index l.numbers) ≡ map (demand_at l.demands) l.numbers
