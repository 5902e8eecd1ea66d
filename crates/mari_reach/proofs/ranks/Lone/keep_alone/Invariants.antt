use Rattle.std.proofs.Common.{◌≡◌, ◌<◌, ◌≤◌, if◌then◌else◌, ℕ, None}
use Rattle.mari_reach.specs.Tables.{lone_in}
use Rattle.mari_reach.specs.Twins.{stands_alone}
use Rattle.mari_reach.proofs.ranks.Lone.keep_alone.Given as goal

abbrev pub invariant-loop-gate : goal.invariant-loop-gate
invariant-loop-gate l = record {
  done : (g : ℕ) → g < l.gate → lone_in l.self g ≡ (if stands_alone l.gates g then lone_in l.fn.self g else None);
  left : (g : ℕ) → l.gate ≤ g → lone_in l.self g ≡ lone_in l.fn.self g;
}
