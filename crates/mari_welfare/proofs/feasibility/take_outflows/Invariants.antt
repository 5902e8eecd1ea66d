use Rattle.std.proofs.Common.{◌≡◌, ◌+◌, ◌*◌, ◌^◌, ◌≤◌, ◌-ℤ◌, ℕ, take}
use Rattle.std.specs.Prelude.{unsigned_abs}
use Rattle.mari_market.specs.Activation.{carried_out}
use Rattle.mari_market.specs.Sums.{sum_along, int_at}
use Rattle.mari_welfare.proofs.feasibility.take_outflows.Given as goal

abbrev pub invariant-loop-i : goal.invariant-loop-i
invariant-loop-i l = record {
  sum : (z : ℕ) → int_at l.left z ≡ int_at l.fn.left z -ℤ sum_along (carried_out z) (take l.i l.borders) (take l.i l.flow);
  small : (z : ℕ) → unsigned_abs (int_at l.left z) ≤ 2 ^ 48 + 2 ^ 65 * l.i;
}
