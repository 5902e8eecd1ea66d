use Rattle.std.proofs.Common.{ℕ, ◌+◌, ◌<◌}
use Rattle.mari_market.specs.Area.{HasBefore}
use Rattle.mari_check.proofs.areas.is_numbered.Given as goal

abbrev pub invariant-loop-below : goal.invariant-loop-below
invariant-loop-below l = (k : ℕ) → k < l.below → HasBefore l.areas l.zone (k + 1)
