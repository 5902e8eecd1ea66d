-- What the ends of intervals say of consistent prices.
use Rattle.std.proofs.Common.{◌≡◌, ◌⊎◌, ℕ, ◌+◌, ◌<◌, ◌≤◌, ℤ, pos, neg_ℤ, ◌≤ℤ◌, List, [], ◌∷◌, Option, Some, None, length, zero, suc, arith, refl, sym, ap, ◌∙◌, subst, inl, inr}
use Rattle.std.specs.List.{All}
use Rattle.std.proofs.lemmas.Int.{ints}
use Rattle.std.proofs.lemmas.List.Elements.{All-weaker, All-nil, All-cons, All-from_get_or}
use Rattle.mari_units.specs.declared.Cents.{Cents}
use Rattle.mari_market.specs.declared.market.Order.{Order}
use Rattle.mari_market.specs.declared.market.Market.{Market}
use Rattle.mari_market.specs.declared.activation.Activation.{Activation}
use Rattle.mari_market.specs.Conflict.{IsChain, last_of, Contradicts, IsContradiction, IsContradictoryChain}
use Rattle.mari_market.specs.Consistent.{IsUpperBound}
use Rattle.mari_market.specs.Interval.{AreLeastPrices, AreGreatestPrices}
use Rattle.mari_market.specs.Market.{IsValid, IsValidOrder}
use Rattle.mari_market.specs.Optimal.{IsAdmissible, IsFeasible, IsConsistent}
use Rattle.mari_units.specs.declared.numbers.TheConstants.{CAP}
use Rattle.mari_market.specs.Price.{IsPrice, price_at}
use Rattle.mari_prices.specs.declared.bounds.End.{End}
use Rattle.mari_prices.specs.declared.bounds.End.TheVariants.{Least, Greatest}
use Rattle.mari_market.specs.declared.along.Along.TheVariants.{Rising, Falling}
use Rattle.mari_prices.specs.declared.spread.SettledZone.{SettledZone}
use Rattle.mari_market.specs.Along.{LeadsTo}
use Rattle.mari_prices.specs.Ends.{along_of, IsEnd, ArePriced, ArePricesOf, AreTrails, AreUncontradicted, IsContradicted, Follows, IsTrailTo}
use Rattle.mari_market.specs.Sums.{int_at}
use Rattle.mari_prices.specs.Spread.{entry_at, IsByItself, IsAfter, IsSpreading}
use Rattle.mari_market.proofs.Conflicts.{chain_refutes, price_in_cap}
use Rattle.mari_market.proofs.Agree.{KeepsAll, keeps_consistent, consistent_keeps}
use Rattle.mari_prices.specs.Tightest.{AreTightest}
use Rattle.mari_prices.proofs.Extremes.{entry_within, spread_least}
use Rattle.mari_prices.proofs.Spreads.{lower_spreads, lower_from, upper_spreads, upper_from, bound_price, leads_within}
use Rattle.mari_market.proofs.Leading.{falling_spreads, falling_from}

prices_of_orders : (m : Market) → IsValid m → All (λ (o : Order). IsPrice o.price.0) m.orders
prices_of_orders m v = All-weaker (IsValidOrder m.zones (length m.gates)) (λ (o : Order). IsPrice o.price.0) (λ o h. h.price) m.orders v.orders

-- ---- values are prices

own_price : (end : End) (m : Market) (a : Activation) (bounds : List ℤ) (z : ℕ) → IsValid m → AreTightest end m.orders a.mw m.zones bounds → z < m.zones → IsPrice (int_at bounds z)
own_price end m a bounds z v t l = bound_price end m.orders a.mw z (int_at bounds z) (prices_of_orders m v) (t.tightest z l).bound

pub priced : (end : End) (m : Market) (a : Activation) (bounds : List ℤ) (xs : List (Option SettledZone)) → IsValid m → IsEnd end m a bounds xs → ArePriced xs
priced end m a bounds xs v e = record {
  settled = e.spread.settled;
  priced = λ z s k.
      let there : z < m.zones = omega (arith, entry_within xs z s k, e.one_each) in
      let own = own_price end m a bounds z v e.own there in
      record {
        low = omega (arith, ints, own.low, e.spread.spreading.above z s k);
        high = spread_least (LeadsTo (along_of end) m.borders a.flow) (int_at bounds) (λ _. CAP) xs e.spread.spreading (λ y h. (own_price end m a bounds y v e.own (omega (arith, h, e.one_each))).high)
            (λ x y h. omega (arith, ints)) z s k;
      };
}

pub bounds_priced : (end : End) (m : Market) (a : Activation) (bounds : List ℤ) → IsValid m → AreTightest end m.orders a.mw m.zones bounds → All IsPrice bounds
bounds_priced end m a bounds v t = All-from_get_or IsPrice bounds (pos 0) (λ i h. own_price end m a bounds i v t (omega (arith, h, t.one_each)))

-- ---- values are extreme

pub least_value : (m : Market) (a : Activation) (bounds : List ℤ) (xs : List (Option SettledZone)) (ps : List Cents)
    → IsValid m → IsFeasible m a → IsEnd Least m a bounds xs → KeepsAll m a ps → (z : ℕ) (s : SettledZone)
    → entry_at xs z ≡ Some s → s.value ≤ℤ price_at ps z
least_value m a bounds xs ps v f e k z s h = spread_least (LeadsTo Rising m.borders a.flow) (int_at bounds) (price_at ps) xs e.spread.spreading
    (λ y l. let there : y < m.zones = omega (arith, l, e.one_each) in k.lower y (int_at bounds y) there (lower_from m a y (int_at bounds y) v f (e.own.tightest y there).bound))
    (λ x y l. let w = leads_within Rising m a x y v l in k.rises x y w.0 w.1 l) z s h

pub greatest_value : (m : Market) (a : Activation) (bounds : List ℤ) (xs : List (Option SettledZone)) (ps : List Cents)
    → IsValid m → IsFeasible m a → IsEnd Greatest m a bounds xs → KeepsAll m a ps → (z : ℕ) (s : SettledZone)
    → entry_at xs z ≡ Some s → s.value ≤ℤ neg_ℤ (price_at ps z)
greatest_value m a bounds xs ps v f e k z s h = spread_least (LeadsTo Falling m.borders a.flow) (int_at bounds) (λ y. neg_ℤ (price_at ps y)) xs e.spread.spreading
    (λ y l.
    let there : y < m.zones = omega (arith, l, e.one_each) in
    let at : price_at ps y ≤ℤ neg_ℤ (int_at bounds y) = k.upper y (neg_ℤ (int_at bounds y)) there (upper_from m a y (int_at bounds y) v f (e.own.tightest y there).bound) in
    omega (arith, ints))
    (λ x y l.
    let r = falling_from m a y x l in
    let w = leads_within Rising m a y x v r in
    let at : price_at ps y ≤ℤ price_at ps x = k.rises y x w.0 w.1 r in
    omega (arith, ints)) z s h

-- ---- where nothing contradicts, both ends are consistent

pub least_keeps : (m : Market) (a : Activation) (bounds uppers : List ℤ) (xs : List (Option SettledZone)) (ps : List Cents)
    → IsValid m → IsFeasible m a → IsEnd Least m a bounds xs → AreTightest Greatest m.orders a.mw m.zones uppers
    → AreUncontradicted (length xs) xs uppers → ArePricesOf Least xs ps → KeepsAll m a ps
least_keeps m a bounds uppers xs ps v f e g fit p =
    let entry : (z : ℕ) → z < m.zones → (s : SettledZone) × (entry_at xs z ≡ Some s) = λ z l. e.spread.settled z (omega (arith, l, e.one_each)) in
    record {
      one_each = omega (arith, p.one_each, e.one_each);
      lower = λ z c l b.
          let s = entry z l in
          let at : price_at ps z ≡ s.0.value = p.each z s.0 s.1 in
          omega (arith, ints, (e.own.tightest z l).tightest c (lower_spreads m a z c v f b), e.spread.spreading.above z s.0 s.1);
      upper = λ z c l b.
          let s = entry z l in
          let at : price_at ps z ≡ s.0.value = p.each z s.0 s.1 in
          omega (arith, ints, fit z s.0 (omega (arith, l, e.one_each)) s.1, (g.tightest z l).tightest (neg_ℤ c) (upper_spreads m a z c v f b));
      rises = λ y z l k h.
          let s = entry y l in
          let t = entry z k in
          let at : price_at ps y ≡ s.0.value = p.each y s.0 s.1 in
          let to : price_at ps z ≡ t.0.value = p.each z t.0 t.1 in
          omega (arith, ints, e.spread.spreading.rises y z s.0 t.0 s.1 t.1 h);
    }

-- the prices that the values of the least end stand for
abbrev listed : List (Option SettledZone) → List Cents
listed [] = []
listed (None ∷ xs) = record { 0 = pos 0 } ∷ listed xs
listed (Some s ∷ xs) = record { 0 = s.value } ∷ listed xs

listed_each : (xs : List (Option SettledZone)) → length (listed xs) ≡ length xs
listed_each [] = refl
listed_each (None ∷ xs) = ap suc (listed_each xs)
listed_each (Some s ∷ xs) = ap suc (listed_each xs)

listed_at : (xs : List (Option SettledZone)) (z : ℕ) (s : SettledZone) → entry_at xs z ≡ Some s → price_at (listed xs) z ≡ s.value
listed_at [] z s e = absurd (cc)
listed_at (None ∷ xs) zero s e = absurd (cc)
listed_at (Some t ∷ xs) zero s e = let one : t ≡ s = cc in ap (λ (x : SettledZone). x.value) one
listed_at (None ∷ xs) (suc z) s e = listed_at xs z s e
listed_at (Some t ∷ xs) (suc z) s e = listed_at xs z s e

-- where nothing contradicts, some prices are consistent
pub uncontradicted : (m : Market) (a : Activation) (bounds uppers : List ℤ) (xs : List (Option SettledZone))
    → IsValid m → IsFeasible m a → IsEnd Least m a bounds xs → AreTightest Greatest m.orders a.mw m.zones uppers
    → AreUncontradicted (length xs) xs uppers → IsAdmissible m a
uncontradicted m a bounds uppers xs v f e g fit =
    let keeps = least_keeps m a bounds uppers xs (listed xs) v f e g fit (record { one_each = listed_each xs; each = listed_at xs }) in
    record { feasible = f; consistent = (listed xs, keeps_consistent m a (listed xs) v f keeps) }

pub greatest_keeps : (m : Market) (a : Activation) (uppers : List ℤ) (ys : List (Option SettledZone)) (ps qs : List Cents)
    → IsValid m → IsFeasible m a → IsEnd Greatest m a uppers ys → KeepsAll m a ps → ArePricesOf Greatest ys qs
    → KeepsAll m a qs
greatest_keeps m a uppers ys ps qs v f g low p =
    let entry : (z : ℕ) → z < m.zones → (s : SettledZone) × (entry_at ys z ≡ Some s) = λ z l. g.spread.settled z (omega (arith, l, g.one_each)) in
    record {
      one_each = omega (arith, p.one_each, g.one_each);
      lower = λ z c l b.
          let s = entry z l in
          let at : price_at qs z ≡ neg_ℤ s.0.value = p.each z s.0 s.1 in
          omega (arith, ints, low.lower z c l b, greatest_value m a uppers ys ps v f g low z s.0 s.1);
      upper = λ z c l b.
          let s = entry z l in
          let at : price_at qs z ≡ neg_ℤ s.0.value = p.each z s.0 s.1 in
          omega (arith, ints, (g.own.tightest z l).tightest (neg_ℤ c) (upper_spreads m a z c v f b), g.spread.spreading.above z s.0 s.1);
      rises = λ y z l k h.
          let s = entry y l in
          let t = entry z k in
          let at : price_at qs y ≡ neg_ℤ s.0.value = p.each y s.0 s.1 in
          let to : price_at qs z ≡ neg_ℤ t.0.value = p.each z t.0 t.1 in
          omega (arith, ints, g.spread.spreading.rises z y t.0 s.0 t.1 s.1 (falling_spreads m a y z h));
    }

pub are_least : (m : Market) (a : Activation) (bounds : List ℤ) (xs : List (Option SettledZone)) (ps : List Cents)
    → IsValid m → IsFeasible m a → IsEnd Least m a bounds xs → KeepsAll m a ps → ArePricesOf Least xs ps
    → AreLeastPrices m a ps
are_least m a bounds xs ps v f e k p = record {
  one_each = k.one_each;
  each = λ z l.
      let s = e.spread.settled z (omega (arith, l, e.one_each)) in
      let at : price_at ps z ≡ s.0.value = p.each z s.0 s.1 in
      record {
        reached = (ps, keeps_consistent m a ps v f k, refl);
        least = λ qs c. omega (arith, ints, least_value m a bounds xs qs v f e (consistent_keeps m a qs c) z s.0 s.1);
      };
}

pub are_greatest : (m : Market) (a : Activation) (uppers : List ℤ) (ys : List (Option SettledZone)) (ps : List Cents)
    → IsValid m → IsFeasible m a → IsEnd Greatest m a uppers ys → KeepsAll m a ps → ArePricesOf Greatest ys ps
    → AreGreatestPrices m a ps
are_greatest m a uppers ys ps v f g k p = record {
  one_each = k.one_each;
  each = λ z l.
      let s = g.spread.settled z (omega (arith, l, g.one_each)) in
      let at : price_at ps z ≡ neg_ℤ s.0.value = p.each z s.0 s.1 in
      record {
        reached = (ps, keeps_consistent m a ps v f k, refl);
        greatest = λ qs c. omega (arith, ints, greatest_value m a uppers ys qs v f g (consistent_keeps m a qs c) z s.0 s.1);
      };
}

-- ---- where one contradicts, no prices are consistent, and the chain shows it

pub none_consistent : (m : Market) (a : Activation) (chain : List ℕ) (ps : List Cents) → IsContradictoryChain m a chain → IsConsistent m a ps → ⊥
none_consistent m a chain ps bad h = chain_refutes m a ps chain (price_in_cap m ps h.prices) h.orders h.borders bad.chain

pub trails : (lead : ℕ → ℕ → Type 0) (own : ℕ → ℤ) (xs : List (Option SettledZone)) → IsSpreading lead own xs → ((z : ℕ) → z < length xs → (s : SettledZone) × (entry_at xs z ≡ Some s)) → AreTrails xs
trails lead own xs h all = record {
  settled = all;
  before = λ z y s k e. before z y s e (h.source z s k);
  some = λ z s k. some z s (h.source z s k);
  short = λ z s k. omega (arith, h.short z s k);
}
  where
    before : (z y : ℕ) (s : SettledZone) → s.previous ≡ Some y → IsByItself own z s ⊎ IsAfter lead xs z s → (t : SettledZone) × (entry_at xs y ≡ Some t) × (s.depth ≡ t.depth + 1)
    before z y s e (inl f) = let none = f.previous in absurd (cc)
    before z y s e (inr a) = let same : a.before ≡ y = (let k = a.previous in cc) in (a.entry, subst (λ (x : ℕ). entry_at xs x ≡ Some a.entry) same a.settled, a.depth)

    some : (z : ℕ) (s : SettledZone) → IsByItself own z s ⊎ IsAfter lead xs z s → 1 ≤ s.depth
    some z s (inl f) = omega (arith, f.depth)
    some z s (inr a) = omega (arith, a.depth)

after_of : (lead : ℕ → ℕ → Type 0) (own : ℕ → ℤ) (xs : List (Option SettledZone)) (z y : ℕ) (s : SettledZone)
    → s.previous ≡ Some y → IsByItself own z s ⊎ IsAfter lead xs z s
    → lead y z × ((t : SettledZone) → entry_at xs y ≡ Some t → s.value ≡ t.value)
after_of lead own xs z y s e (inl f) = let none = f.previous in absurd (cc)
after_of lead own xs z y s e (inr a) =
    let same : a.before ≡ y = (let k = a.previous in cc) in (
      subst (λ (x : ℕ). lead x z) same a.leads,
      λ t k. let there : entry_at xs y ≡ Some a.entry = subst (λ (x : ℕ). entry_at xs x ≡ Some a.entry) same a.settled in let one : a.entry ≡ t = cc in a.value ∙ ap (λ (x : SettledZone). x.value) one,
    )

-- along a chain the value stays, and each zone leads to the next
record Carries (m : Market) (a : Activation) (xs : List (Option SettledZone)) (z : ℕ) (rest : List ℕ) (s : SettledZone) : Type 0 where
  chain : IsChain m a z rest
  there : All (λ (y : ℕ). y < length xs) (z ∷ rest)
  value : (t : SettledZone) → entry_at xs (last_of z rest) ≡ Some t → t.value ≡ s.value

carries : (m : Market) (a : Activation) (bounds : List ℤ) (xs : List (Option SettledZone)) (z : ℕ) (rest : List ℕ) (s : SettledZone)
    → IsEnd Least m a bounds xs → Follows xs z rest → entry_at xs z ≡ Some s → Carries m a xs z rest s
carries m a bounds xs z [] s e f k = record {
  chain = tt;
  there = All-cons (λ (y : ℕ). y < length xs) z [] (entry_within xs z s k) (All-nil (λ (y : ℕ). y < length xs));
  value = λ t l. let one : t ≡ s = cc in ap (λ (x : SettledZone). x.value) one;
}
carries m a bounds xs z (y ∷ ys) s e f k =
    let b = f.0 in
    let after = after_of (LeadsTo Rising m.borders a.flow) (int_at bounds) xs y z b.entry b.previous (e.spread.spreading.source y b.entry b.settled) in
    let more = carries m a bounds xs y ys b.entry e f.1 b.settled in
    record {
      chain = (after.0, more.chain);
      there = All-cons (λ (x : ℕ). x < length xs) z (y ∷ ys) (entry_within xs z s k) more.there;
      value = λ t l. more.value t l ∙ after.1 s k;
    }

first_value : (lead : ℕ → ℕ → Type 0) (own : ℕ → ℤ) (xs : List (Option SettledZone)) (z : ℕ) (s : SettledZone) → s.previous ≡ None → IsByItself own z s ⊎ IsAfter lead xs z s → s.value ≡ own z
first_value lead own xs z s e (inl f) = f.value
first_value lead own xs z s e (inr a) = let k = a.previous in absurd (cc)

pub trail_contradicts : (m : Market) (a : Activation) (bounds uppers : List ℤ) (xs : List (Option SettledZone)) (last : ℕ) (chain : List ℕ)
    → IsValid m → IsFeasible m a → IsEnd Least m a bounds xs → AreTightest Greatest m.orders a.mw m.zones uppers
    → IsContradicted xs uppers last → IsTrailTo xs last chain → IsContradictoryChain m a chain
trail_contradicts m a bounds uppers xs last chain v f e g h t =
    let all = carries m a bounds xs t.first t.trail.rest t.entry e t.trail.follows t.settled in
    let first_there : t.first < m.zones = omega (arith, entry_within xs t.first t.entry t.settled, e.one_each) in
    let last_there : last < m.zones = omega (arith, entry_within xs last h.entry h.settled, e.one_each) in
    let value : h.entry.value ≡ t.entry.value = all.value h.entry (subst (λ (x : ℕ). entry_at xs x ≡ Some h.entry) (sym t.trail.ends) h.settled) in
    let own : t.entry.value ≡ int_at bounds t.first = first_value (LeadsTo Rising m.borders a.flow) (int_at bounds) xs t.first t.entry t.start (e.spread.spreading.source t.first t.entry t.settled) in
    let upper : IsUpperBound m a (last_of t.first t.trail.rest) (neg_ℤ (int_at uppers last)) =
    subst (λ (x : ℕ). IsUpperBound m a x (neg_ℤ (int_at uppers last))) (sym t.trail.ends) (upper_from m a last (int_at uppers last) v f (g.tightest last last_there).bound) in
    let contradicts : Contradicts m a t.first (last_of t.first t.trail.rest) = record {
      low = int_at bounds t.first;
      high = neg_ℤ (int_at uppers last);
      lower = lower_from m a t.first (int_at bounds t.first) v f (e.own.tightest t.first first_there).bound;
      upper = upper;
      above = omega (arith, ints, h.above, value, own);
    } in
    record {
      chain = subst (IsContradiction m a) (sym t.trail.items) (all.chain, contradicts);
      short = omega (arith, t.short, e.one_each);
      zones = subst (All (λ (z : ℕ). z < m.zones)) (sym t.trail.items)
          (All-weaker (λ (z : ℕ). z < length xs) (λ (z : ℕ). z < m.zones) (λ z l. omega (arith, l, e.one_each)) (t.first ∷ t.trail.rest) all.there);
    }
