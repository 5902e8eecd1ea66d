use Rattle.std.proofs.Common.{ℕ, ◌<◌}
use Rattle.mari_market.specs.Area.{IsNumbered}
use Rattle.mari_check.proofs.areas.are_numbered.Given as goal

abbrev pub invariant-loop-zone : goal.invariant-loop-zone
invariant-loop-zone l = (k : ℕ) → k < l.zone → IsNumbered l.areas k
