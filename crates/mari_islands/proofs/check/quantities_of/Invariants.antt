use Rattle.std.proofs.Common.{◌≡◌, ◌++◌, drop, map, slice_index}
use Rattle.mari_islands.proofs.check.quantities_of.Given as goal

-- with those still to come it is the whole
abbrev pub invariant-loop-number : goal.invariant-loop-number
invariant-loop-number l = l.own.items ++ map (slice_index l.mw) (drop l.number-index l.numbers) ≡ map (slice_index l.mw) l.numbers
