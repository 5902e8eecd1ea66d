use Rattle.std.proofs.Common.{◌≡◌, ◌<◌, ◌≤◌, ℕ}
use Rattle.std.specs.List.{list_any}
use Rattle.mari_market.specs.Prefix.{opens_in}
use Rattle.mari_reach.specs.State.{line_of}
use Rattle.mari_reach.proofs.closing.close_all_below.Given as goal

abbrev pub invariant-loop-gate : goal.invariant-loop-gate
invariant-loop-gate l = record {
  done : (g : ℕ) → g < l.gate → opens_in l.closed g ≡ list_any (opens_in l.fn.closed) (line_of l.gates g);
  left : (g : ℕ) → l.gate ≤ g → opens_in l.closed g ≡ opens_in l.fn.closed g;
}
