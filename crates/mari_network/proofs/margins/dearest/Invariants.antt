use Rattle.std.proofs.Common.{◌≡◌, ℕ, ◌<◌, neg_ℤ, ◌≤ℤ◌, ◌<ℤ◌, false, Some, None}
use Rattle.mari_network.specs.declared.slots.TheConstants.{BEYOND}
use Rattle.mari_network.specs.Slots.{price_of}
use Rattle.mari_network.specs.Spread.{is_marked}
use Rattle.mari_network.specs.Margins.{dearest_at}
use Rattle.mari_network.proofs.margins.dearest.Given as goal

abbrev pub invariant-loop-zone : goal.invariant-loop-zone
invariant-loop-zone l = record {
  some : (i : ℕ) → l.best ≡ Some i → (l.above ≡ price_of l.slots i) × (z : ℕ) × (z < l.zone) × (is_marked l.marked z ≡ false) × (dearest_at l.margins z ≡ Some i);
  none : l.best ≡ None → l.above <ℤ neg_ℤ BEYOND;
  all : (z i : ℕ) → z < l.zone → is_marked l.marked z ≡ false → dearest_at l.margins z ≡ Some i → price_of l.slots i ≤ℤ l.above;
}
