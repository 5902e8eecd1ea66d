use Rattle.std.proofs.Common.{◌≡◌, filter, map}
use Rattle.std.specs.List.{range_with_len}
use Rattle.mari_islands.specs.Islands.{has_first}
use Rattle.mari_islands.specs.Part.{part_of}
use Rattle.mari_islands.proofs.islands.islands_by.Given as goal

-- the islands of the first zones so far
abbrev pub invariant-loop-zone : goal.invariant-loop-zone
invariant-loop-zone l = l.islands.items ≡ map (λ first. part_of l.market (has_first l.firsts first)) (filter (λ z. has_first l.firsts z z) (range_with_len 0 l.zone))
