use Rattle.std.proofs.Common.{◌≡◌, ◌++◌, drop, map}
use Rattle.mari_market.specs.Sums.{int_at}
use Rattle.mari_islands.proofs.check.flows_of.Given as goal

-- with those still to come it is the whole
abbrev pub invariant-loop-number : goal.invariant-loop-number
invariant-loop-number l = l.own.items ++ map (int_at l.flow) (drop l.number-index l.numbers) ≡ map (int_at l.flow) l.numbers
