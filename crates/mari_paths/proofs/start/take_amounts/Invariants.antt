use Rattle.std.proofs.Common.{◌≡◌, ◌*◌, ℕ, neg_ℤ, length, take}
use Rattle.mari_market.specs.Sums.{sum_along, int_at}
use Rattle.mari_network.specs.Slots.{slot_into}
use Rattle.mari_paths.specs.Starts.{IsNear}
use Rattle.mari_paths.proofs.start.take_amounts.Given as goal

abbrev pub invariant-loop-i : goal.invariant-loop-i
invariant-loop-i l = record {
  long : length l.short ≡ length l.fn.short;
  near : (z : ℕ) → IsNear (99999 * l.i) (int_at l.short z);
  each : (z : ℕ) → int_at l.short z ≡ neg_ℤ (sum_along (slot_into z) (take l.i l.slots) (take l.i l.amounts));
}
