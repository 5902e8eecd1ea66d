use Rattle.std.proofs.Common.{◌≡◌, map, take}
use Rattle.mari_blocks.specs.Joint.{gate_info}
use Rattle.mari_blocks.proofs.gates.gate_infos.Given as goal

-- what is known of the gates so far
abbrev pub invariant-loop-gate : goal.invariant-loop-gate
invariant-loop-gate l = l.infos.items ≡ map (gate_info l.links l.gates) (take l.gate-index l.gates)
