use Rattle.std.proofs.Common.{◌≡◌, ℕ, ◌<◌, ◌≤◌, pos}
use Rattle.mari_market.specs.Sums.{int_at}
use Rattle.mari_network.proofs.finish.first_short.Given as goal

abbrev pub invariant-loop-i : goal.invariant-loop-i
invariant-loop-i l = (k : ℕ) → l.from ≤ k → k < l.i → int_at l.amounts k ≡ pos 0
