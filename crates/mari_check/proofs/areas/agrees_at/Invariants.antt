use Rattle.std.proofs.Common.{ℕ, ◌<◌}
use Rattle.mari_check.specs.Areas.{AreAlike}
use Rattle.mari_check.proofs.areas.agrees_at.Given as goal

abbrev pub invariant-loop-other : goal.invariant-loop-other
invariant-loop-other l = (k : ℕ) → k < l.other → AreAlike l.areas l.labels l.zone k
