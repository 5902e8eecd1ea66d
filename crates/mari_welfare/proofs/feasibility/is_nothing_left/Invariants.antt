use Rattle.std.proofs.Common.{◌≡◌, ℕ, ◌<◌, pos}
use Rattle.mari_market.specs.Sums.{int_at}
use Rattle.mari_welfare.proofs.feasibility.is_nothing_left.Given as goal

abbrev pub invariant-loop-zone : goal.invariant-loop-zone
invariant-loop-zone l = (z : ℕ) → z < l.zone → int_at l.left z ≡ pos 0
