use Rattle.std.proofs.Common.{◌≡◌, ◌*◌, ◌+◌, ℕ, ◌+ℤ◌, length, take}
use Rattle.mari_market.specs.Sums.{sum_along, int_at}
use Rattle.mari_market.specs.Activation.{carried_out}
use Rattle.mari_paths.specs.Starts.{IsNear}
use Rattle.mari_paths.proofs.start.add_flows.Given as goal

abbrev pub invariant-loop-i : goal.invariant-loop-i
invariant-loop-i l = record {
  long : length l.short ≡ length l.fn.short;
  near : (z : ℕ) → IsNear (500000000 + 400000 * l.i) (int_at l.short z);
  each : (z : ℕ) → int_at l.short z ≡ int_at l.fn.short z +ℤ sum_along (carried_out z) (take l.i l.borders) (take l.i l.flows);
}
