use Rattle.std.proofs.Common.{◌≡◌, ◌<◌, ℕ, neg_ℤ, ◌≤ℤ◌, take}
use Rattle.mari_units.specs.declared.numbers.TheConstants.{CAP}
use Rattle.mari_market.specs.Prefix.{opens_in}
use Rattle.mari_market.specs.Sums.{int_at}
use Rattle.mari_reach.specs.State.{high_by, low_by}
use Rattle.mari_reach.proofs.prices.PriceBox.set.Given as goal

abbrev pub invariant-loop-order : goal.invariant-loop-order
invariant-loop-order l = record {
  low : (z : ℕ) → z < 64 → int_at l.self.low z ≡ low_by (opens_in l.opened) l.decisions (take l.order-index l.orders) z;
  high : (z : ℕ) → z < 64 → int_at l.self.high z ≡ high_by (opens_in l.opened) l.decisions (take l.order-index l.orders) z;
  low_kept : (z : ℕ) → neg_ℤ CAP ≤ℤ int_at l.self.low z;
  high_kept : (z : ℕ) → int_at l.self.high z ≤ℤ CAP;
}
