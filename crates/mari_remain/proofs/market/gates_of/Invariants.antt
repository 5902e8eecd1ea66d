use Rattle.std.proofs.Common.{◌≡◌, ◌++◌, drop, map}
use Rattle.mari_remain.specs.RunMarket.{gate_at}
use Rattle.mari_remain.proofs.market.gates_of.Given as goal

-- with those still to come it is the whole
abbrev pub invariant-loop-number : goal.invariant-loop-number
invariant-loop-number l = l.gates.items ++ map (gate_at l.links l.gated) (drop l.number-index l.gated) ≡ map (gate_at l.links l.gated) l.gated
