use Rattle.std.proofs.Common.{◌≡◌, ◌++◌, drop, map}
use Rattle.mari_islands.specs.Part.{gate_among}
use Rattle.mari_islands.proofs.part.gates_among.Given as goal

-- with those still to come it is the whole
abbrev pub invariant-loop-gate : goal.invariant-loop-gate
invariant-loop-gate l = l.own.items ++ map (gate_among l.infos l.gates) (drop l.gate-index l.gates) ≡ map (gate_among l.infos l.gates) l.gates
