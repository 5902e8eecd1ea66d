use Rattle.std.proofs.Common.{◌≡◌, ◌<◌, ℕ, get_or, pos}
use Rattle.mari_remain.proofs.adding.set_to_zero.Given as goal

abbrev pub invariant-loop-k : goal.invariant-loop-k
invariant-loop-k l = (i : ℕ) → i < l.k → get_or l.flow i (pos 0) ≡ pos 0
