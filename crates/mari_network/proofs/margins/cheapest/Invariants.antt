use Rattle.std.proofs.Common.{◌≡◌, ℕ, ◌<◌, ◌≤ℤ◌, ◌<ℤ◌, Some, None}
use Rattle.std.specs.Prelude.{IfSome}
use Rattle.mari_network.specs.Chain.{hop_at}
use Rattle.mari_network.specs.Slots.{price_of}
use Rattle.mari_network.specs.Margins.{cheapest_at, IsSource}
use Rattle.mari_network.proofs.margins.cheapest.Given as goal

abbrev pub invariant-loop-at : goal.invariant-loop-at
invariant-loop-at l = record {
  below : l.below ≤ℤ l.limit;
  later : 0 < l.zone → l.below <ℤ l.limit;
  some : IfSome l.best (IsSource l.slots l.margins l.hops l.limit);
  first : l.best ≡ None → l.below ≡ l.limit;
  none : l.best ≡ None → (k i : ℕ) → k < l.at → cheapest_at l.margins (hop_at l.hops k).zone ≡ Some i → l.limit ≤ℤ price_of l.slots i;
}
