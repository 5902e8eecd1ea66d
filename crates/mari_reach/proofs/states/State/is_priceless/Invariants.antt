use Rattle.std.proofs.Common.{◌≡◌, ◌<◌, ℕ, false}
use Rattle.mari_reach.specs.Tables.{is_priceless}
use Rattle.mari_reach.proofs.states.State.is_priceless.Given as goal

abbrev pub invariant-loop-zone : goal.invariant-loop-zone
invariant-loop-zone l = (z : ℕ) → z < l.zone → is_priceless l.self z ≡ false
