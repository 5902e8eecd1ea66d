-- Prices that are nearest to the references of their own quarters are together consistent, since a border lies within
-- one quarter.
use Rattle.std.proofs.Common.{◌≡◌, ◌∙◌, ℕ, ◌<◌, ℤ, pos, List, length, arith, sym, subst}
use Rattle.std.specs.List.{All}
use Rattle.std.proofs.lemmas.Int.{ints}
use Rattle.std.proofs.lemmas.List.{get_or_default}
use Rattle.std.proofs.lemmas.Slice.Zip.{AllZip-long}
use Rattle.mari_units.specs.declared.Cents.{Cents}
use Rattle.mari_market.specs.declared.market.Order.{Order}
use Rattle.mari_market.specs.declared.market.Border.{Border}
use Rattle.mari_market.specs.declared.market.Market.{Market}
use Rattle.mari_market.specs.declared.activation.Activation.{Activation}
use Rattle.mari_market.specs.Activation.{is_open}
use Rattle.mari_market.specs.Consistent.{IsConsistentOrder, IsConsistentBorder}
use Rattle.mari_market.specs.Interval.{AreGreatestPrices, AreLeastPrices, IsNearest}
use Rattle.mari_market.specs.Market.{IsValid, IsValidOrder, IsValidBorder}
use Rattle.mari_market.specs.Optimal.{IsConsistent}
use Rattle.mari_market.specs.Price.{IsPrice, price_at}
use Rattle.mari_market.proofs.Conflicts.{price_in_cap}
use Rattle.mari_market.proofs.Published.{nearest_rises}
use Rattle.mari_market.proofs.Sums.{AllZip-each, AllZip-both, AllZip-with}
use Rattle.mari_blocks.specs.Prices.{AreOwnPrices}

-- the prices of intervals that are the nearest to their own references
pub own-prices : (m : Market) (a : Activation) (reference : ℕ → ℤ) (lows highs prices : List Cents) → AreLeastPrices m a lows → AreGreatestPrices m a highs → length prices ≡ length lows
    → ((z : ℕ) → z < length lows → IsNearest (price_at lows z) (price_at highs z) (reference z) (price_at prices z)) → AreOwnPrices m a reference prices
own-prices m a reference lows highs prices least greatest long nearest = record {
  one_each = long ∙ least.one_each;
  each = λ z l. record {
    low = price_at lows z;
    high = price_at highs z;
    least = least.each z l;
    greatest = greatest.each z l;
    nearest = nearest z (omega (arith, l, least.one_each));
  };
}

module _ (m : Market) (a : Activation) (reference : ℕ → ℤ) (ps : List Cents) (v : IsValid m) (own : AreOwnPrices m a reference ps) where
  abbrev Zone : Type 0
  Zone = (z : ℕ) × (z < m.zones)

  -- consistent prices that give a zone its least, and such that give it its greatest
  abbrev lows : Zone → List Cents
  lows z = (own.each z.0 z.1).least.reached.0

  abbrev highs : Zone → List Cents
  highs z = (own.each z.0 z.1).greatest.reached.0

  -- what every zone's two price vectors say of an order, and of a border
  abbrev OrderAt : Zone → Order → ℕ → Type 0
  OrderAt z o q = IsConsistentOrder (is_open m a) (lows z) o q × IsConsistentOrder (is_open m a) (highs z) o q

  abbrev BorderAt : Zone → Border → ℤ → Type 0
  BorderAt z b f = IsConsistentBorder (lows z) b f × IsConsistentBorder (highs z) b f

  order-kept : (gates : ℕ) (o : Order) (q : ℕ) → IsValidOrder m.zones gates o → ((z : Zone) → OrderAt z o q) → IsConsistentOrder (is_open m a) ps o q
  order-kept gates o q fits k =
      let at = k (o.zone, fits.zone) in
      let here = own.each o.zone fits.zone in
      record {
        lower = λ s. omega (arith, ints, at.0.lower s, here.least.reached.2, here.nearest.from_low);
        upper = λ s. omega (arith, ints, at.1.upper s, here.greatest.reached.2, here.nearest.to_high);
      }

  border-kept : (b : Border) (f : ℤ) → reference b.to ≡ reference b.from → IsValidBorder m.zones b → ((z : Zone) → BorderAt z b f) → IsConsistentBorder ps b f
  border-kept b f same fits k =
      let from = own.each b.from fits.from in
      let to = own.each b.to fits.to in
      let at_from = k (b.from, fits.from) in
      let at_to = k (b.to, fits.to) in
      let near = rw same at to.nearest in
      record {
        more = λ l. nearest_rises from.low from.high to.low to.high (reference b.from) (price_at ps b.from) (price_at ps b.to)
            (omega (arith, ints, at_from.0.more l, from.least.reached.2, to.least.least from.least.reached.0 from.least.reached.1))
            (omega (arith, ints, at_to.1.more l, to.greatest.reached.2, from.greatest.greatest to.greatest.reached.0 to.greatest.reached.1))
            from.nearest near;
        less = λ l. nearest_rises to.low to.high from.low from.high (reference b.from) (price_at ps b.to) (price_at ps b.from)
            (omega (arith, ints, at_to.0.less l, to.least.reached.2, from.least.least to.least.reached.0 to.least.reached.1))
            (omega (arith, ints, at_from.1.less l, from.greatest.reached.2, to.greatest.greatest from.greatest.reached.0 from.greatest.reached.1))
            near from.nearest;
      }

  in-cap : (z : ℕ) → z < m.zones → IsPrice (price_at ps z)
  in-cap z l =
      let at = own.each z l in
      let low = price_in_cap m at.least.reached.0 at.least.reached.1.prices z in
      let high = price_in_cap m at.greatest.reached.0 at.greatest.reached.1.prices z in
      record {
        low = omega (arith, ints, low.low, at.least.reached.2, at.nearest.from_low);
        high = omega (arith, ints, high.high, at.greatest.reached.2, at.nearest.to_high);
      }

  -- where the zones of each border have one reference, the prices are together consistent
  pub own-consistent : All (λ (b : Border). reference b.to ≡ reference b.from) m.borders → IsConsistent m a ps
  own-consistent within =
      let first : Zone = (0, v.zones.0) in
      let some = (own.each first.0 first.1).least.reached.1 in
      let orders = AllZip-each OrderAt m.orders a.mw (sym (AllZip-long _ m.orders a.mw some.orders)) (λ z.
      AllZip-both (IsConsistentOrder (is_open m a) (lows z)) (IsConsistentOrder (is_open m a) (highs z)) (OrderAt z) (λ o q h k. (h, k)) m.orders a.mw
      (own.each z.0 z.1).least.reached.1.orders (own.each z.0 z.1).greatest.reached.1.orders) in
      let borders = AllZip-each BorderAt m.borders a.flow (sym (AllZip-long _ m.borders a.flow some.borders)) (λ z.
      AllZip-both (IsConsistentBorder (lows z)) (IsConsistentBorder (highs z)) (BorderAt z) (λ b f h k. (h, k)) m.borders a.flow
      (own.each z.0 z.1).least.reached.1.borders (own.each z.0 z.1).greatest.reached.1.borders) in
      let valid_orders = AllZip-with (IsValidOrder m.zones (length m.gates)) (λ o q. (z : Zone) → OrderAt z o q) m.orders a.mw v.orders orders in
      let valid_borders = AllZip-with (IsValidBorder m.zones) (λ b f. (z : Zone) → BorderAt z b f) m.borders a.flow v.borders borders in
      let same_borders = AllZip-with (λ (b : Border). reference b.to ≡ reference b.from) (λ b f. (z : Zone) → BorderAt z b f) m.borders a.flow within borders in
      record {
        prices = record { one_each = own.one_each; capped = λ k d l. subst (λ (c : Cents). IsPrice c.0) (get_or_default ps k (record { 0 = pos 0 }) d l) (in-cap k (omega (arith, own.one_each))) };
        orders =
            AllZip-both (λ o q. IsValidOrder m.zones (length m.gates) o × ((z : Zone) → OrderAt z o q))
            (λ o q. IsValidOrder m.zones (length m.gates) o × ((z : Zone) → OrderAt z o q)) (IsConsistentOrder (is_open m a) ps)
            (λ o q h k. order-kept (length m.gates) o q h.0 h.1) m.orders a.mw valid_orders valid_orders;
        borders = AllZip-both (λ b f. IsValidBorder m.zones b × ((z : Zone) → BorderAt z b f)) (λ b f. (reference b.to ≡ reference b.from) × ((z : Zone) → BorderAt z b f)) (IsConsistentBorder ps)
            (λ b f h k. border-kept b f k.0 h.0 h.1) m.borders a.flow valid_borders same_borders;
      }
