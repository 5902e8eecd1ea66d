use Rattle.std.proofs.Common.{ℕ, ◌<◌}
use Rattle.mari_check.specs.Areas.{AgreeAt}
use Rattle.mari_check.proofs.areas.agree.Given as goal

abbrev pub invariant-loop-zone : goal.invariant-loop-zone
invariant-loop-zone l = (k : ℕ) → k < l.zone → AgreeAt l.areas l.labels k
