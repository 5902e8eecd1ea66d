-- Price intervals of an admissible activation.
use Rattle.std.proofs.Common.{◌≡◌, ℕ, ◌<◌, ℤ, ◌≤ℤ◌, List, length, arith}
use Rattle.std.proofs.lemmas.Int.{ints}
use Rattle.mari_units.specs.declared.Cents.{Cents}
use Rattle.mari_market.specs.declared.market.Market.{Market}
use Rattle.mari_market.specs.declared.activation.Activation.{Activation}
use Rattle.mari_market.specs.Interval.{IsLeastPrice, IsGreatestPrice, IsNearest, AreLeastPrices, AreGreatestPrices, ArePublishedPrices}
use Rattle.mari_market.specs.Price.{price_at}
use Rattle.mari_prices.specs.Published.{AreInOrder}

-- a zone's least price is at most its greatest: both are prices of consistent ones
least_is_less : (m : Market) (a : Activation) (z : ℕ) (c d : ℤ) → IsLeastPrice m a z c → IsGreatestPrice m a z d → c ≤ℤ d
least_is_less m a z c d least greatest = omega (arith, ints, greatest.reached.2, least.least greatest.reached.0 greatest.reached.1)

pub in_order : (m : Market) (a : Activation) (least greatest : List Cents) → AreLeastPrices m a least → AreGreatestPrices m a greatest → AreInOrder least greatest
in_order m a least greatest l g = record {
  one_each = omega (arith, l.one_each, g.one_each);
  in_order = λ z less. let there : z < m.zones = omega (arith, l.one_each) in least_is_less m a z (price_at least z) (price_at greatest z) (l.each z there) (g.each z there);
}

pub published : (m : Market) (a : Activation) (least greatest prices : List Cents) → AreLeastPrices m a least → AreGreatestPrices m a greatest → length prices ≡ length least
    → ((z : ℕ) → z < length least → IsNearest (price_at least z) (price_at greatest z) m.reference.0 (price_at prices z)) → ArePublishedPrices m a prices
published m a least greatest prices l g same h = record {
  one_each = omega (arith, l.one_each);
  each = λ z less. record { low = price_at least z; high = price_at greatest z; least = l.each z less; greatest = g.each z less; nearest = h z (omega (arith, l.one_each)) };
}
