use Rattle.std.proofs.Common.{◌≡◌, ◌||◌, ◌<◌, ◌≤◌, ℕ}
use Rattle.mari_market.specs.Prefix.{opens_in}
use Rattle.mari_reach.specs.State.{are_rivals}
use Rattle.mari_reach.proofs.closing.mark_group.Given as goal

abbrev pub invariant-loop-other : goal.invariant-loop-other
invariant-loop-other l = record {
  done : (g : ℕ) → g < l.other → opens_in l.marks g ≡ (opens_in l.fn.marks g || are_rivals l.gates g l.gate);
  left : (g : ℕ) → l.other ≤ g → opens_in l.marks g ≡ opens_in l.fn.marks g;
}
