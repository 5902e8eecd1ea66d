use Rattle.std.proofs.Common.{◌≡◌, ℕ, ◌<◌, pos}
use Rattle.mari_settle.specs.Lines.{amount_at}
use Rattle.mari_settle.proofs.providers.set_to_zero.Given as goal

abbrev pub invariant-loop-i : goal.invariant-loop-i
invariant-loop-i l = (k : ℕ) → k < l.i → amount_at l.amounts k ≡ pos 0
