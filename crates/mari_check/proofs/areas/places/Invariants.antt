use Rattle.std.proofs.Common.{◌≡◌}
use Rattle.std.specs.List.{range_with_len}
use Rattle.mari_check.proofs.areas.places.Given as goal

-- the places so far
abbrev pub invariant-loop-zone : goal.invariant-loop-zone
invariant-loop-zone l = l.places.items ≡ range_with_len 0 l.zone
