use Rattle.std.proofs.Common.{◌≡◌, [], map}
use Rattle.std.specs.List.{range_with_len}
use Rattle.mari_remain.proofs.index.empty.Given as goal

-- an empty list for each key so far
abbrev pub invariant-loop-key : goal.invariant-loop-key
invariant-loop-key l = l.made.items ≡ map (λ key. []) (range_with_len 0 l.key)
