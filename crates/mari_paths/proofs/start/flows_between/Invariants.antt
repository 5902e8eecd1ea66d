use Rattle.std.proofs.Common.{◌≡◌, ◌*◌, ◌+◌, ℕ, length, take}
use Rattle.std.specs.List.{AllZip}
use Rattle.mari_market.specs.Sums.{int_at}
use Rattle.mari_market.specs.Activation.{IsWithinLimits}
use Rattle.mari_paths.specs.Starts.{IsNear}
use Rattle.mari_paths.proofs.start.flows_between.Given as goal

abbrev pub invariant-loop-border : goal.invariant-loop-border
invariant-loop-border l = record {
  long : length l.short ≡ length l.fn.short;
  near : (z : ℕ) → IsNear (500000000 + 400000 * l.border-index) (int_at l.short z);
  within : AllZip IsWithinLimits (take l.border-index l.borders) l.flows.items;
}
