-- Zones of one area have one first zone, and areas are numbered by it.
use Rattle.std.proofs.Common.{◌≡◌, ◌⊎◌, ℕ, ◌<◌, ◌≤◌, ℤ, pos, neg_ℤ, ◌≤ℤ◌, List, Option, Some, length, zero, suc, arith, refl, sym, ap, ◌∙◌, subst, inl, inr}
use Rattle.std.specs.Prelude.{unsigned_abs}
use Rattle.std.proofs.lemmas.Int.{ints}
use Rattle.mari_market.specs.declared.market.Market.{Market}
use Rattle.mari_market.specs.declared.activation.Activation.{Activation}
use Rattle.mari_market.specs.Area.{InOneArea, AreAreas, area_at}
use Rattle.mari_market.specs.Along.Reaches.{itself, further}
use Rattle.mari_market.specs.Market.{IsValid}
use Rattle.mari_market.specs.declared.along.Along.TheVariants.{Joined}
use Rattle.mari_prices.specs.declared.spread.SettledZone.{SettledZone}
use Rattle.mari_market.specs.Along.{LeadsTo}
use Rattle.mari_prices.specs.Firsts.{ArePlaces, first_in, first_at, AreFirsts, AreNumberedByFirsts}
use Rattle.mari_market.specs.Sums.{int_at}
use Rattle.mari_prices.specs.Spread.{entry_at, IsByItself, IsAfter, SpreadsAlong}
use Rattle.mari_prices.proofs.Extremes.{entry_within}
use Rattle.mari_prices.proofs.Spreads.{leads_within}
use Rattle.mari_market.proofs.Joins.{joins_other, area_on, area_back}

-- ---- first zones

-- each zone has its place as its own value, and these spread along uncongested borders
pub record AreSpread (m : Market) (a : Activation) (values : List ℤ) (xs : List (Option SettledZone)) : Type 0 where
  pub values_each : length values ≡ m.zones
  pub one_each : length xs ≡ m.zones
  pub places : ArePlaces values
  pub spread : SpreadsAlong Joined m.borders a.flow values xs

record HasFirst (m : Market) (a : Activation) (z : ℕ) (s : SettledZone) : Type 0 where
  first : ℕ
  there : first < m.zones
  value : s.value ≡ neg_ℤ (pos first)
  joined : InOneArea m a first z

has_first : (m : Market) (a : Activation) (values : List ℤ) (xs : List (Option SettledZone)) → AreSpread m a values xs
    → (n z : ℕ) (s : SettledZone) → s.depth ≤ n → entry_at xs z ≡ Some s → HasFirst m a z s
has_first m a values xs h zero z s d e = by_source (h.spread.spreading.source z s e)
  where
    by_source : IsByItself (int_at values) z s ⊎ IsAfter (LeadsTo Joined m.borders a.flow) xs z s → HasFirst m a z s
    by_source (inl f) = absurd (omega (arith, f.depth))
    by_source (inr k) = absurd (omega (arith, k.depth))
has_first m a values xs h (suc n) z s d e = by_source (h.spread.spreading.source z s e) (λ y t l k. has_first m a values xs h n y t l k)
  where
    by_source : IsByItself (int_at values) z s ⊎ IsAfter (LeadsTo Joined m.borders a.flow) xs z s
        → ((y : ℕ) (t : SettledZone) → t.depth ≤ n → entry_at xs y ≡ Some t → HasFirst m a y t) → HasFirst m a z s
    by_source (inl f) before = record {
      first = z;
      there = omega (arith, entry_within xs z s e, h.one_each);
      value = f.value ∙ h.places z (omega (arith, entry_within xs z s e, h.one_each, h.values_each));
      joined = itself;
    }
    by_source (inr k) before =
        let b = before k.before k.entry (omega (arith, k.depth)) k.settled in
        record { first = b.first; there = b.there; value = k.value ∙ b.value; joined = further k.before z b.joined k.leads }

abbrev SameValue : Market → List (Option SettledZone) → ℕ → ℕ → Type 0
SameValue m xs y z = (z < m.zones) × ((s t : SettledZone) → entry_at xs y ≡ Some s → entry_at xs z ≡ Some t → s.value ≡ t.value)

same_value : (m : Market) (a : Activation) (values : List ℤ) (xs : List (Option SettledZone)) → IsValid m → AreSpread m a values xs → (y z : ℕ) → y < m.zones → InOneArea m a y z → SameValue m xs y z
same_value m a values xs v h y _ l itself = (l, λ s t e f. let one : s ≡ t = cc in ap (λ (x : SettledZone). x.value) one)
same_value m a values xs v h y _ l (further w z k j) =
    let before = same_value m a values xs v h y w l k in
    let u = h.spread.settled w (omega (arith, before.0, h.one_each)) in (
      (leads_within Joined m a w z v j).1,
      λ s t e f. omega (
        arith,
        ints,
        before.1 s u.0 e u.1,
        h.spread.spreading.rises w z u.0 t u.1 f j,
        h.spread.spreading.rises z w t u.0 f u.1 (joins_other m a w z j),
      ),
    )

abs_neg : (n : ℕ) → unsigned_abs (neg_ℤ (pos n)) ≡ n
abs_neg zero = refl
abs_neg (suc n) = refl

first_is : (m : Market) (a : Activation) (values : List ℤ) (xs : List (Option SettledZone)) (z : ℕ)
    → AreSpread m a values xs → z < m.zones → (first_at xs z < m.zones) × InOneArea m a (first_at xs z) z
first_is m a values xs z h l =
    let s = h.spread.settled z (omega (arith, l, h.one_each)) in
    let f = has_first m a values xs h s.0.depth z s.0 (omega arith) s.1 in
    let at : first_at xs z ≡ f.first = ap first_in s.1 ∙ ap unsigned_abs f.value ∙ abs_neg f.first in
    (subst (λ (x : ℕ). x < m.zones) (sym at) f.there, subst (λ (x : ℕ). InOneArea m a x z) (sym at) f.joined)

same_first : (m : Market) (a : Activation) (values : List ℤ) (xs : List (Option SettledZone)) (y z : ℕ) → IsValid m
    → AreSpread m a values xs → y < m.zones → z < m.zones → InOneArea m a y z → first_at xs y ≡ first_at xs z
same_first m a values xs y z v h l k j =
    let s = h.spread.settled y (omega (arith, l, h.one_each)) in
    let t = h.spread.settled z (omega (arith, k, h.one_each)) in
    ap first_in s.1 ∙ ap unsigned_abs ((same_value m a values xs v h y z l j).1 s.0 t.0 s.1 t.1) ∙ sym (ap first_in t.1)

not_above : (n z : ℕ) (v : ℤ) → neg_ℤ (pos z) ≤ℤ v → v ≡ neg_ℤ (pos n) → n ≤ z
not_above n z v h e = omega (arith, ints)

pub firsts : (m : Market) (a : Activation) (values : List ℤ) (xs : List (Option SettledZone)) → IsValid m → AreSpread m a values xs → AreFirsts (length xs) (first_at xs)
firsts m a values xs v h = record {
  no_later = λ z l.
      let s = h.spread.settled z l in
      let f = has_first m a values xs h s.0.depth z s.0 (omega arith) s.1 in
      let at : first_at xs z ≡ f.first = ap first_in s.1 ∙ ap unsigned_abs f.value ∙ abs_neg f.first in
      let own : int_at values z ≡ neg_ℤ (pos z) = h.places z (omega (arith, l, h.one_each, h.values_each)) in
      omega (arith, at, not_above f.first z s.0.value (subst (λ (x : ℤ). x ≤ℤ s.0.value) own (h.spread.spreading.above z s.0 s.1)) f.value);
  own = λ z l.
      let there : z < m.zones = omega (arith, l, h.one_each) in
      let f = first_is m a values xs z h there in
      same_first m a values xs (first_at xs z) z v h f.0 there f.1;
}

-- ---- areas

pub numbered_areas : (m : Market) (a : Activation) (values : List ℤ) (xs : List (Option SettledZone)) (areas : List ℕ)
    → IsValid m → AreSpread m a values xs → AreNumberedByFirsts xs areas → AreAreas m a areas
numbered_areas m a values xs areas v h k =
    let f = firsts m a values xs v h in
    let n = k.numbering in
    record {
      one_each = k.one_each ∙ h.one_each;
      together = λ y z l o.
          let ly : y < length xs = omega (arith, l, h.one_each) in
          let lz : z < length xs = omega (arith, o, h.one_each) in
          let fy = first_is m a values xs y h l in
          let fz = first_is m a values xs z h o in (
            λ e.
                let one : first_at xs y ≡ first_at xs z = n.apart (first_at xs y) (first_at xs z) (omega (arith, fy.0, h.one_each)) (omega (arith, fz.0, h.one_each)) (f.own y ly) (f.own z lz)
                (sym (n.as_first y ly) ∙ e ∙ n.as_first z lz) in
                area_on m a y (first_at xs y) z (area_back m a (first_at xs y) y fy.1) (subst (λ (x : ℕ). InOneArea m a x z) (sym one) fz.1),
            λ j. n.as_first y ly ∙ ap (area_at areas) (same_first m a values xs y z v h l o j) ∙ sym (n.as_first z lz),
          );
      numbered = λ z l. record { from_one = n.from_one z (omega (arith, l, h.one_each)); by_first = λ c i o. n.in_order z c (omega (arith, l, h.one_each)) i o };
    }
