use Rattle.std.proofs.Common.{◌≡◌, ◌*◌, ◌^◌, ◌≤◌, ℕ, take}
use Rattle.std.specs.Prelude.{unsigned_abs}
use Rattle.mari_market.specs.Activation.{put_into}
use Rattle.mari_market.specs.Sums.{sum_along, int_at}
use Rattle.mari_welfare.proofs.feasibility.net_injections.Given as goal

abbrev pub invariant-loop-i : goal.invariant-loop-i
invariant-loop-i l = record {
  sum : (z : ℕ) → int_at l.left z ≡ sum_along (put_into z) (take l.i l.orders) (take l.i l.mw);
  small : (z : ℕ) → unsigned_abs (int_at l.left z) ≤ 2 ^ 32 * l.i;
}
