use Rattle.std.proofs.Common.{◌≡◌, filter}
use Rattle.std.specs.List.{range_with_len}
use Rattle.mari_islands.specs.Islands.{has_first}
use Rattle.mari_islands.proofs.part.zones_inside.Given as goal

-- the zones so far
abbrev pub invariant-loop-zone : goal.invariant-loop-zone
invariant-loop-zone l = l.zones.items ≡ filter (has_first l.firsts l.first) (range_with_len 0 l.zone)
