use Rattle.std.proofs.Common.{◌≡◌, ◌≤◌, ◌<◌, ℕ, Some, length}
use Rattle.mari_network.specs.Margins.{IsDearestRung}
use Rattle.mari_network.proofs.ladders.dearest_rung.Given as goal

abbrev pub invariant-loop-at : goal.invariant-loop-at
invariant-loop-at l = record {
  at : l.at ≤ l.end;
  there : (i : ℕ) → l.best ≡ Some i → i < length l.slots;
  dearest : IsDearestRung l.slots l.amounts l.ladder l.at l.end l.best;
}

abbrev pub decreases-loop-at : goal.decreases-loop-at
decreases-loop-at l = l.at
