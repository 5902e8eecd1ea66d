use Rattle.std.proofs.Common.{◌≤ℤ◌}
use Rattle.std.specs.Prelude.{IfSome}
use Rattle.mari_network.specs.Slots.{price_of}
use Rattle.mari_paths.specs.Drains.{AreEnds}
use Rattle.mari_paths.proofs.drains.cheapest_end.Given as goal

abbrev pub invariant-loop-at : goal.invariant-loop-at
invariant-loop-at l = record {
  below : l.below ≤ℤ price_of l.slots l.sink;
  best : IfSome l.best (AreEnds l.slots l.margins l.hops l.sink);
}
