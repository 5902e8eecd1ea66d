use Rattle.std.proofs.Common.{◌≡◌, ◌<◌, ℕ, false}
use Rattle.mari_reach.specs.Tables.{is_torn}
use Rattle.mari_reach.proofs.states.State.is_torn.Given as goal

abbrev pub invariant-loop-gate : goal.invariant-loop-gate
invariant-loop-gate l = (g : ℕ) → g < l.gate → is_torn l.self g ≡ false
