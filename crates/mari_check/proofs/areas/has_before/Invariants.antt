use Rattle.std.proofs.Common.{◌≡◌, ℕ, ◌<◌}
use Rattle.mari_market.specs.Area.{area_at}
use Rattle.mari_check.proofs.areas.has_before.Given as goal

abbrev pub invariant-loop-other : goal.invariant-loop-other
invariant-loop-other l = (k : ℕ) → k < l.other → area_at l.areas k ≡ l.number → ⊥
