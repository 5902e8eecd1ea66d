-- The heights that bounds come to are those of the least, or of the greatest, consistent prices.
use Rattle.std.proofs.Common.{◌≡◌, ℕ, ◌<◌, ℤ, pos, ◌+ℤ◌, ◌-ℤ◌, ◌≤ℤ◌, List, [], ◌∷◌, length, arith, refl, sym, subst, inl, inr}
use Rattle.std.specs.Prelude.{slice_index, unsigned_abs}
use Rattle.std.specs.List.{All}
use Rattle.std.proofs.lemmas.Int.{ints}
use Rattle.std.proofs.lemmas.List.Elements.{All-head, All-tail}
use Rattle.mari_units.specs.declared.numbers.Cents.{Cents}
use Rattle.mari_market.specs.declared.activation.Activation.{Activation}
use Rattle.mari_market.specs.declared.market.Market.{Market}
use Rattle.mari_market.specs.declared.market.Order.{Order}
use Rattle.mari_market.specs.declared.price_rules.Standing.{Standing}
use Rattle.mari_market.specs.Activation.{is_open}
use Rattle.mari_market.specs.Consistent.{IsLowerBound, IsUpperBound, SetsLower, SetsLowerAt, SetsUpper, SetsUpperAt}
use Rattle.mari_market.specs.Market.{IsValid, IsValidOrder}
use Rattle.mari_market.specs.Optimal.{IsConsistent, IsFeasible}
use Rattle.mari_units.specs.declared.numbers.TheConstants.{CAP}
use Rattle.mari_market.specs.Price.{IsPrice, price_at}
use Rattle.mari_market.specs.Sums.{AnyZip}
use Rattle.mari_market.proofs.Conflicts.{leads_sound, lower_kept, price_in_cap, upper_kept}
use Rattle.mari_market.proofs.Sums.{AnyZip-with}
use Rattle.mari_check.specs.declared.ends.End.{End}
use Rattle.mari_check.specs.declared.ends.End.TheVariants.{Greatest, Least}
use Rattle.mari_market.specs.declared.along.Along.TheVariants.{Falling, Rising}
use Rattle.mari_check.specs.Ends.{AreEndPrices, ArePricesOf, IsBoundBy, IsTightest, SetsAt, along_of}
use Rattle.mari_check.specs.Spread.{HasSource, IsSpread}
use Rattle.mari_market.specs.Along.{LeadsTo, Reaches}
use Rattle.mari_market.specs.Along.Reaches.{further, itself}
use Rattle.mari_market.proofs.Agree.{KeepsAll, keeps_consistent}
use Rattle.mari_market.proofs.Standings.{OneStanding, one_standing}
use Rattle.mari_market.proofs.Leading.{falling_spreads, falling_from}

module _ (m : Market) (a : Activation) (v : IsValid m) (f : IsFeasible m a) where
  -- ---- bounds, as the definitions have them and by their heights

  pub lower-height : (z : ℕ) (c : ℤ) (n : ℕ) → pos n ≡ c +ℤ CAP → IsLowerBound m a z c → IsBoundBy Least m.orders a.mw z n
  lower-height z c n e (inl h) = inl (omega (arith, ints, e, h))
  lower-height z c n e (inr s) = inr (AnyZip-with (OneStanding m a) (SetsLowerAt (is_open m a) z c) (SetsAt Least z n)
      (λ o q is h. record {
        zone = h.zone;
        height = omega (arith, ints, e, h.price);
        sets = subst (λ (s : Standing). SetsLower s o.side o.greatest q) (sym is) h.sets;
      }) m.orders a.mw (one_standing m a v f) s)

  pub lower-from : (z n : ℕ) → IsBoundBy Least m.orders a.mw z n → IsLowerBound m a z (pos n -ℤ CAP)
  lower-from z n (inl h) = inl (omega (arith, ints, h))
  lower-from z n (inr s) = inr (AnyZip-with (OneStanding m a) (SetsAt Least z n) (SetsLowerAt (is_open m a) z (pos n -ℤ CAP))
      (λ o q is h. record { zone = h.zone; price = omega (arith, ints, h.height); sets = subst (λ (s : Standing). SetsLower s o.side o.greatest q) is h.sets }) m.orders a.mw (one_standing m a v f) s)

  pub upper-height : (z : ℕ) (c : ℤ) (n : ℕ) → pos n ≡ CAP -ℤ c → IsUpperBound m a z c → IsBoundBy Greatest m.orders a.mw z n
  upper-height z c n e (inl h) = inl (omega (arith, ints, e, h))
  upper-height z c n e (inr s) = inr (AnyZip-with (OneStanding m a) (SetsUpperAt (is_open m a) z c) (SetsAt Greatest z n)
      (λ o q is h. record {
        zone = h.zone;
        height = omega (arith, ints, e, h.price);
        sets = subst (λ (s : Standing). SetsUpper s o.side o.greatest q) (sym is) h.sets;
      }) m.orders a.mw (one_standing m a v f) s)

  pub upper-from : (z n : ℕ) → IsBoundBy Greatest m.orders a.mw z n → IsUpperBound m a z (CAP -ℤ pos n)
  upper-from z n (inl h) = inl (omega (arith, ints, h))
  upper-from z n (inr s) = inr (AnyZip-with (OneStanding m a) (SetsAt Greatest z n) (SetsUpperAt (is_open m a) z (CAP -ℤ pos n))
      (λ o q is h. record { zone = h.zone; price = omega (arith, ints, h.height); sets = subst (λ (s : Standing). SetsUpper s o.side o.greatest q) is h.sets }) m.orders a.mw (one_standing m a v f) s)

  -- bounds are prices
  set-lower-price : (z : ℕ) (c : ℤ) (os : List Order) (qs : List ℕ) → All (IsValidOrder m.zones (length m.gates)) os → AnyZip (SetsLowerAt (is_open m a) z c) os qs → IsPrice c
  set-lower-price z c (o ∷ os) (q ∷ qs) p (inl s) = subst IsPrice s.price (All-head (IsValidOrder m.zones (length m.gates)) o os p).price
  set-lower-price z c (o ∷ os) (q ∷ qs) p (inr e) = set-lower-price z c os qs (All-tail (IsValidOrder m.zones (length m.gates)) o os p) e
  set-lower-price z c _ _ p e = absurd e

  pub lower-price : (z : ℕ) (c : ℤ) → IsLowerBound m a z c → IsPrice c
  lower-price z c (inl e) = record { low = omega (arith, ints, e); high = omega (arith, ints, e) }
  lower-price z c (inr s) = set-lower-price z c m.orders a.mw v.orders s

  set-upper-price : (z : ℕ) (c : ℤ) (os : List Order) (qs : List ℕ) → All (IsValidOrder m.zones (length m.gates)) os → AnyZip (SetsUpperAt (is_open m a) z c) os qs → IsPrice c
  set-upper-price z c (o ∷ os) (q ∷ qs) p (inl s) = subst IsPrice s.price (All-head (IsValidOrder m.zones (length m.gates)) o os p).price
  set-upper-price z c (o ∷ os) (q ∷ qs) p (inr e) = set-upper-price z c os qs (All-tail (IsValidOrder m.zones (length m.gates)) o os p) e
  set-upper-price z c _ _ p e = absurd e

  pub upper-price : (z : ℕ) (c : ℤ) → IsUpperBound m a z c → IsPrice c
  upper-price z c (inl e) = record { low = omega (arith, ints, e); high = omega (arith, ints, e) }
  upper-price z c (inr s) = set-upper-price z c m.orders a.mw v.orders s

  module _ (qs : List Cents) (agrees : IsConsistent m a qs) where
    rise-along : (y z : ℕ) → Reaches (LeadsTo Rising m.borders a.flow) y z → price_at qs y ≤ℤ price_at qs z
    rise-along y _ itself = omega (arith, ints)
    rise-along y _ (further x z r l) = omega (arith, ints, rise-along y x r, leads_sound m a qs x z agrees.borders l)

    fall-along : (y z : ℕ) → Reaches (LeadsTo Falling m.borders a.flow) y z → price_at qs z ≤ℤ price_at qs y
    fall-along y _ itself = omega (arith, ints)
    fall-along y _ (further x z r l) = omega (arith, ints, fall-along y x r, leads_sound m a qs z x agrees.borders (falling_from m a z x l))

    -- no consistent price is lower than that of the least height, nor higher than that of the greatest
    no-lower : (bounds vs : List ℕ) (z : ℕ) → ((y : ℕ) → y < length bounds → IsTightest Least m.orders a.mw y bounds)
        → HasSource (LeadsTo Rising m.borders a.flow) bounds vs z → (pos (slice_index vs z) -ℤ CAP) ≤ℤ price_at qs z
    no-lower bounds vs z t s =
        let own = lower-from s.from (slice_index bounds s.from) (t s.from s.there).bound in
        omega (arith, ints, s.value, lower_kept m a qs s.from (pos (slice_index bounds s.from) -ℤ CAP) (price_in_cap m qs agrees.prices s.from) agrees.orders own, rise-along s.from z s.reaches)

    no-higher : (bounds vs : List ℕ) (z : ℕ)
        → ((y : ℕ) → y < length bounds → IsTightest Greatest m.orders a.mw y bounds)
        → HasSource (LeadsTo Falling m.borders a.flow) bounds vs z → price_at qs z ≤ℤ (CAP -ℤ pos (slice_index vs z))
    no-higher bounds vs z t s =
        let own = upper-from s.from (slice_index bounds s.from) (t s.from s.there).bound in
        omega (arith, ints, s.value, upper_kept m a qs s.from (CAP -ℤ pos (slice_index bounds s.from)) (price_in_cap m qs agrees.prices s.from) agrees.orders own, fall-along s.from z s.reaches)

  -- ---- where some prices are consistent, so are those of either end

  module _ (bounds vs : List ℕ) (ps qs : List Cents) (agrees : IsConsistent m a qs) (long : length bounds ≡ m.zones) where
    least-keeps : ((y : ℕ) → y < length bounds → IsTightest Least m.orders a.mw y bounds) → IsSpread (LeadsTo Rising m.borders a.flow) bounds vs → ArePricesOf Least vs ps → KeepsAll m a ps
    least-keeps t s p = record {
      one_each = omega (arith, p.one_each, s.one_each, long);
      lower = λ z c l b.
          let c_price = lower-price z c b in
          let n : ℕ = unsigned_abs (c +ℤ CAP) in
          let high : pos n ≡ c +ℤ CAP = omega (arith, ints, c_price.low) in
          omega (arith, ints, (t z (omega (arith, l, long))).tightest n (lower-height z c n high b), s.above z, p.each z (omega (arith, l, long, s.one_each)), high);
      upper = λ z c l b.
          omega (
            arith,
            ints,
            no-lower qs agrees bounds vs z t (s.source z (omega (arith, l, long))),
            upper_kept m a qs z c (price_in_cap m qs agrees.prices z) agrees.orders b,
            p.each z (omega (arith, l, long, s.one_each)),
          );
      rises = λ y z k l r. omega (arith, ints, s.rises y z r, p.each y (omega (arith, k, long, s.one_each)), p.each z (omega (arith, l, long, s.one_each)));
    }

    greatest-keeps : ((y : ℕ) → y < length bounds → IsTightest Greatest m.orders a.mw y bounds) → IsSpread (LeadsTo Falling m.borders a.flow) bounds vs → ArePricesOf Greatest vs ps → KeepsAll m a ps
    greatest-keeps t s p = record {
      one_each = omega (arith, p.one_each, s.one_each, long);
      lower = λ z c l b.
          omega (
            arith,
            ints,
            no-higher qs agrees bounds vs z t (s.source z (omega (arith, l, long))),
            lower_kept m a qs z c (price_in_cap m qs agrees.prices z) agrees.orders b,
            p.each z (omega (arith, l, long, s.one_each)),
          );
      upper = λ z c l b.
          let c_price = upper-price z c b in
          let n : ℕ = unsigned_abs (CAP -ℤ c) in
          let low : pos n ≡ CAP -ℤ c = omega (arith, ints, c_price.high) in
          omega (arith, ints, (t z (omega (arith, l, long))).tightest n (upper-height z c n low b), s.above z, p.each z (omega (arith, l, long, s.one_each)), low);
      rises = λ y z k l r. omega (arith, ints, s.rises z y (falling_spreads m a y z r), p.each y (omega (arith, k, long, s.one_each)), p.each z (omega (arith, l, long, s.one_each)));
    }

  module _ (bounds vs : List ℕ) (ps : List Cents) (some : (qs : List Cents) × IsConsistent m a qs) (long : length bounds ≡ m.zones) where
    -- the prices at an end
    pub end-prices : (end : End) → ((y : ℕ) → y < m.zones → IsTightest end m.orders a.mw y bounds)
        → IsSpread (LeadsTo (along_of end) m.borders a.flow) bounds vs → ArePricesOf end vs ps
        → AreEndPrices end m a ps
    end-prices Least t s p =
        let each : (y : ℕ) → y < length bounds → IsTightest Least m.orders a.mw y bounds = λ y l. t y (omega (arith, l, long)) in
        let agree = keeps_consistent m a ps v f (least-keeps bounds vs ps some.0 some.1 long each s p) in
        record {
          one_each = agree.prices.one_each;
          each = λ z l. record {
            reached = (ps, agree, refl);
            least = λ qs agrees. omega (arith, ints, no-lower qs agrees bounds vs z each (s.source z (omega (arith, l, long))), p.each z (omega (arith, l, long, s.one_each)));
          };
        }
    end-prices Greatest t s p =
        let each : (y : ℕ) → y < length bounds → IsTightest Greatest m.orders a.mw y bounds = λ y l. t y (omega (arith, l, long)) in
        let agree = keeps_consistent m a ps v f (greatest-keeps bounds vs ps some.0 some.1 long each s p) in
        record {
          one_each = agree.prices.one_each;
          each = λ z l. record {
            reached = (ps, agree, refl);
            greatest = λ qs agrees. omega (arith, ints, no-higher qs agrees bounds vs z each (s.source z (omega (arith, l, long))), p.each z (omega (arith, l, long, s.one_each)));
          };
        }
