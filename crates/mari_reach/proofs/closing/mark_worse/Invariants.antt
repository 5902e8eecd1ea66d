use Rattle.std.proofs.Common.{◌≡◌, ◌||◌, ◌<◌, ◌≤◌, ℕ}
use Rattle.mari_market.specs.Prefix.{opens_in}
use Rattle.mari_reach.specs.Tables.{outranks_in}
use Rattle.mari_reach.proofs.closing.mark_worse.Given as goal

abbrev pub invariant-loop-other : goal.invariant-loop-other
invariant-loop-other l = record {
  done : (g : ℕ) → g < l.other → opens_in l.marks g ≡ (opens_in l.fn.marks g || outranks_in l.twins.lone l.gate g);
  left : (g : ℕ) → l.other ≤ g → opens_in l.marks g ≡ opens_in l.fn.marks g;
}
