use Rattle.std.proofs.Common.{◌≡◌, filter, slice_index}
use Rattle.std.specs.List.{range_with_len}
use Rattle.mari_islands.specs.Islands.{has_first}
use Rattle.mari_islands.proofs.part.gates_inside.Given as goal

-- the gates so far
abbrev pub invariant-loop-gate : goal.invariant-loop-gate
invariant-loop-gate l = l.gates.items ≡ filter (λ g. has_first l.firsts l.first (slice_index l.homes g)) (range_with_len 0 l.gate)
