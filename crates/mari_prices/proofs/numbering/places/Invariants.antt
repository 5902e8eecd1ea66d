use Rattle.std.proofs.Common.{◌≡◌, ℕ, ◌<◌, pos, neg_ℤ, length}
use Rattle.mari_market.specs.Sums.{int_at}
use Rattle.mari_prices.proofs.numbering.places.Given as goal

abbrev pub invariant-loop-zone : goal.invariant-loop-zone
invariant-loop-zone l = record {
  long : length l.places.items ≡ l.zone;
  places : (z : ℕ) → z < l.zone → int_at l.places.items z ≡ neg_ℤ (pos z);
}
