-- Values that are raised along borders.
use Rattle.std.proofs.Common.{◌≡◌, ◌+◌, ◌<◌, ◌≤◌, ℕ, zero, suc, ℤ, Bool, true, false, ◌||◌, List, [], ◌∷◌, length, pos, set, get_or, take, arith, refl, sym, ap, ◌∙◌, subst, inl, inr, get_or-set_same, get_or-set_other, length-set}
use Rattle.std.specs.List.{AllZip}
use Rattle.std.proofs.lemmas.Bool.{cases_eq, or_parts}
use Rattle.std.proofs.lemmas.List.Elements.{All-cons, All-from_get_or, All-head, All-tail}
use Rattle.mari_market.specs.declared.market.Border.{Border}
use Rattle.mari_market.proofs.Sums.{AnyZip-at, AnyZip-meets}
use Rattle.mari_market.proofs.Lists.{AllZip_more}
use Rattle.mari_market.specs.declared.along.Along.{Along}
use Rattle.mari_check.specs.Spread.{AreSmall, HasSource, IsClosed, IsClosedOver, IsRaiseIf, IsSpread, Spreads, most_value, room_of}
use Rattle.mari_market.specs.Along.{LeadsBack, LeadsOn, LeadsOver, LeadsTo, Reaches}
use Rattle.mari_market.specs.Along.Reaches.{further, itself}
use Rattle.mari_check.specs.Spread.Spreads.{raised, unchanged}

pub spreads-on : (lead : ℕ → ℕ → Type 0) (xs ys zs : List ℕ) → Spreads lead xs ys → Spreads lead ys zs → Spreads lead xs zs
spreads-on lead xs ys _ h unchanged = h
spreads-on lead xs ys _ h (raised vs y z k l ly lz less) = raised vs y z (spreads-on lead xs ys vs h k) l ly lz less

pub spreads-wider : (lead wide : ℕ → ℕ → Type 0) → ((y z : ℕ) → lead y z → wide y z) → (xs ys : List ℕ) → Spreads lead xs ys → Spreads wide xs ys
spreads-wider lead wide w xs _ unchanged = unchanged
spreads-wider lead wide w xs _ (raised vs y z k l ly lz less) = raised vs y z (spreads-wider lead wide w xs vs k) (w y z l) ly lz less

pub spreads-long : (lead : ℕ → ℕ → Type 0) (xs ys : List ℕ) → Spreads lead xs ys → length ys ≡ length xs
spreads-long lead xs _ unchanged = refl
spreads-long lead xs _ (raised vs y z k l ly lz less) = length-set vs z (get_or vs y 0) ∙ spreads-long lead xs vs k

-- ---- values stay small, and each raise takes room

small-set : (vs : List ℕ) (z v : ℕ) → AreSmall vs → v ≤ most_value → AreSmall (set vs z v)
small-set [] z v h l = h
small-set (x ∷ xs) zero v h l = All-cons (λ n. n ≤ most_value) v xs l (All-tail (λ n. n ≤ most_value) x xs h)
small-set (x ∷ xs) (suc z) v h l = All-cons (λ n. n ≤ most_value) x (set xs z v) (All-head (λ n. n ≤ most_value) x xs h) (small-set xs z v (All-tail (λ n. n ≤ most_value) x xs h) l)

room-set : (vs : List ℕ) (z v : ℕ) → z < length vs → get_or vs z 0 < v → v ≤ most_value → room_of (set vs z v) < room_of vs
room-set [] z v h less l = absurd (omega arith)
room-set (x ∷ xs) zero v h less l = omega (arith, less, l)
room-set (x ∷ xs) (suc z) v h less l = omega (arith, room-set xs z v (omega arith) less l)

pub small-spreads : (lead : ℕ → ℕ → Type 0) (xs ys : List ℕ) → AreSmall xs → Spreads lead xs ys → AreSmall ys
small-spreads lead xs _ h unchanged = h
small-spreads lead xs _ h (raised vs y z k l ly lz less) = let before = small-spreads lead xs vs h k in small-set vs z (get_or vs y 0) before (before y 0 ly)

pub room-spreads : (lead : ℕ → ℕ → Type 0) (xs ys : List ℕ) → AreSmall xs → Spreads lead xs ys → room_of ys ≤ room_of xs
room-spreads lead xs _ h unchanged = omega arith
room-spreads lead xs _ h (raised vs y z k l ly lz less) =
    let before = small-spreads lead xs vs h k in
    omega (arith, room-spreads lead xs vs h k, room-set vs z (get_or vs y 0) lz less (before y 0 ly))

-- ---- one raise, and two

record Step (lead : ℕ → ℕ → Type 0) (leads : Bool) (old : List ℕ) (from to : ℕ) (new : List ℕ) (changed : Bool) : Type 0 where
  pub spreads : Spreads lead old new
  pub same : changed ≡ false → new ≡ old
  pub closed : changed ≡ false → leads ≡ true → get_or old from 0 ≤ get_or old to 0
  pub less : changed ≡ true → room_of new < room_of old

step : (lead : ℕ → ℕ → Type 0) (leads : Bool) (old : List ℕ) (from to : ℕ) (new : List ℕ) (changed : Bool) → from < length old → to < length old → AreSmall old → (leads ≡ true → lead from to)
    → IsRaiseIf leads old from to new changed → Step lead leads old from to new changed
step lead true old from to new true lf lt small l h = record {
  spreads = subst (Spreads lead old) (sym h.1) (raised old from to unchanged (l refl) lf lt h.0);
  same = λ e. absurd (cc e);
  closed = λ e. absurd (cc e);
  less = λ e. subst (λ (vs : List ℕ). room_of vs < room_of old) (sym h.1) (room-set old to (get_or old from 0) lt h.0 (small from 0 lf));
}
step lead true old from to new false lf lt small l h = record {
  spreads = subst (Spreads lead old) (sym h.0) unchanged;
  same = λ e. h.0;
  closed = λ e f. h.1;
  less = λ e. absurd (cc e);
}
step lead false old from to new changed lf lt small l h = record {
  spreads = subst (Spreads lead old) (sym h.0) unchanged;
  same = λ e. h.0;
  closed = λ e f. absurd (cc f);
  less = λ e. absurd (let no = h.1 in cc);
}

pub record Over (along : Along) (b : Border) (f : ℤ) (old new : List ℕ) (changed : Bool) : Type 0 where
  pub spreads : Spreads (λ y z. LeadsOver along y z b f) old new
  pub settled : changed ≡ false → (new ≡ old) × IsClosedOver along new b f
  pub less : changed ≡ true → room_of new < room_of old

closed-over : (along : Along) (b : Border) (f : ℤ) (vs : List ℕ)
    → (LeadsOn along b f → get_or vs b.from 0 ≤ get_or vs b.to 0)
    → (LeadsBack along b f → get_or vs b.to 0 ≤ get_or vs b.from 0) → IsClosedOver along vs b f
closed-over along b f vs on back y z (inl l) = omega (arith, on l.2, ap (λ k. get_or vs k 0) l.0, ap (λ k. get_or vs k 0) l.1)
closed-over along b f vs on back y z (inr l) = omega (arith, back l.2, ap (λ k. get_or vs k 0) l.0, ap (λ k. get_or vs k 0) l.1)

pub both-ways-over : (along : Along) (b : Border) (f g : ℤ) → g ≡ f → (on back : Bool) (old mid new : List ℕ) (first second : Bool) → b.from < length old → b.to < length old → AreSmall old
    → (on ≡ true → LeadsOn along b g) → (LeadsOn along b g → on ≡ true) → (back ≡ true → LeadsBack along b g) → (LeadsBack along b g → back ≡ true)
    → IsRaiseIf on old b.from b.to mid first → IsRaiseIf back mid b.to b.from new second → Over along b f old new (first || second)
both-ways-over along b f g read on back old mid new first second lf lt small on_is is_on back_is is_back h k =
    let lead : ℕ → ℕ → Type 0 = λ y z. LeadsOver along y z b f in
    let s = step lead on old b.from b.to mid first lf lt small (λ e. inl (refl, refl, subst (LeadsOn along b) read (on_is e))) h in
    let long = spreads-long lead old mid s.spreads in
    let small_mid = small-spreads lead old mid small s.spreads in
    let t = step lead back mid b.to b.from new second (omega (arith, long)) (omega (arith, long)) small_mid (λ e. inr (refl, refl, subst (LeadsBack along b) read (back_is e))) k in
    record {
      spreads = spreads-on lead old mid new s.spreads t.spreads;
      settled = λ e.
          let none = or_parts first second e in
          let same : new ≡ old = t.same none.1 ∙ s.same none.0 in (
            same,
            subst (λ (vs : List ℕ). IsClosedOver along vs b f) (sym same)
                (closed-over along b f old (λ l. s.closed none.0 (is_on (subst (LeadsOn along b) (sym read) l)))
                (λ l. subst (λ (vs : List ℕ). get_or vs b.to 0 ≤ get_or vs b.from 0) (s.same none.0) (t.closed none.1 (is_back (subst (LeadsBack along b) (sym read) l))))),
          );
      less = λ e. by first second e s.less t.less (room-spreads lead old mid small s.spreads) (room-spreads lead mid new small_mid t.spreads);
    }
  where
    by : (p q : Bool) → (p || q) ≡ true → (p ≡ true → room_of mid < room_of old)
        → (q ≡ true → room_of new < room_of mid) → room_of mid ≤ room_of old → room_of new ≤ room_of mid
        → room_of new < room_of old
    by true q e f g l m = omega (arith, f refl, m)
    by false q e f g l m = omega (arith, g e, l)

-- ---- what values become that no border raises any more

above-set : (vs : List ℕ) (z w v : ℕ) → z < length vs → get_or vs z 0 < v → get_or vs w 0 ≤ get_or (set vs z v) w 0
above-set vs z w v l less = elim (cases_eq w z) [
  | inl same ↦ omega (arith, get_or-set_same vs z v 0 l, ap (λ k. get_or vs k 0) same, ap (λ k. get_or (set vs z v) k 0) same, less)
  | inr other ↦ omega (arith, get_or-set_other vs z w v 0 other)
]

above : (lead : ℕ → ℕ → Type 0) (xs ys : List ℕ) → Spreads lead xs ys → (z : ℕ) → get_or xs z 0 ≤ get_or ys z 0
above lead xs _ unchanged w = omega arith
above lead xs _ (raised vs y z k l ly lz less) w = omega (arith, above lead xs vs k w, above-set vs z w (get_or vs y 0) lz less)

source : (lead : ℕ → ℕ → Type 0) (xs ys : List ℕ) → Spreads lead xs ys → (z : ℕ) → z < length xs → HasSource lead xs ys z
source lead xs _ unchanged w l = record { from = w; there = l; reaches = itself; value = refl }
source lead xs _ (raised vs y z k r ly lz less) w l =
    let long = spreads-long lead xs vs k in
    elim (cases_eq w z) [
      | inl same ↦
          let s = source lead xs vs k y (omega (arith, ly, long)) in
          record {
            from = s.from;
            there = s.there;
            reaches = subst (Reaches lead s.from) (sym same) (further y z s.reaches r);
            value = ap (λ n. get_or (set vs z (get_or vs y 0)) n 0) same ∙ get_or-set_same vs z (get_or vs y 0) 0 lz ∙ s.value;
          }
      | inr other ↦
          let s = source lead xs vs k w l in
          record { from = s.from; there = s.there; reaches = s.reaches; value = get_or-set_other vs z w (get_or vs y 0) 0 other ∙ s.value }
    ]

rises : (along : Along) (bs : List Border) (fs : List ℤ) (vs : List ℕ) → IsClosed along vs bs fs → (y z : ℕ) → LeadsTo along bs fs y z → get_or vs y 0 ≤ get_or vs z 0
rises along bs fs vs c y z l = AnyZip-meets (IsClosedOver along vs) (LeadsOver along y z) (get_or vs y 0 ≤ get_or vs z 0) (λ b f h k. h y z k) bs fs c l

pub is-spread : (along : Along) (bs : List Border) (fs : List ℤ) (xs vs : List ℕ) → Spreads (LeadsTo along bs fs) xs vs → IsClosed along vs bs fs → IsSpread (LeadsTo along bs fs) xs vs
is-spread along bs fs xs vs s c = record {
  one_each = spreads-long (LeadsTo along bs fs) xs vs s;
  above = above (LeadsTo along bs fs) xs vs s;
  rises = rises along bs fs vs c;
  source = source (LeadsTo along bs fs) xs vs s;
}

pub over-by : (along : Along) (b : Border) (f : ℤ) (old new : List ℕ) (first second is : Bool) → is ≡ (first || second) → Over along b f old new (first || second) → Over along b f old new is
over-by along b f old new first second is e o = subst (Over along b f old new) (sym e) o

-- ---- a round

pub record Going (along : Along) (bs : List Border) (fs : List ℤ) (initial vs : List ℕ) (i : ℕ) (changed : Bool) : Type 0 where
  pub spreads : Spreads (LeadsTo along bs fs) initial vs
  pub settled : changed ≡ false → (vs ≡ initial) × AllZip (IsClosedOver along vs) (take i bs) (take i fs)
  pub less : changed ≡ true → room_of vs < room_of initial

-- one border more
pub going-more : (along : Along) (bs : List Border) (fs : List ℤ) (d : Border) (f : ℤ) (i : ℕ) (initial old new : List ℕ) (was now changed : Bool)
    → AreSmall initial → i < length bs → i < length fs → f ≡ get_or fs i (pos 0)
    → Going along bs fs initial old i was → Over along (get_or bs i d) f old new changed → (changed ≡ true → now ≡ true) → (changed ≡ false → now ≡ was) → Going along bs fs initial new (i + 1) now
going-more along bs fs d f i initial old new was now true small l k e g o up kept =
    let lead = LeadsTo along bs fs in
    let there : (y z : ℕ) → LeadsOver along y z (get_or bs i d) f
    → lead y z = λ y z h. AnyZip-at (LeadsOver along y z) bs fs i d (pos 0) l k (subst (λ (x : ℤ). LeadsOver along y z (get_or bs i d) x) e h) in
    record {
      spreads = spreads-on lead initial old new g.spreads (spreads-wider (λ y z. LeadsOver along y z (get_or bs i d) f) lead there old new o.spreads);
      settled = λ h. absurd (let is : now ≡ true = up refl in cc);
      less = λ h. omega (arith, o.less refl, room-spreads lead initial old small g.spreads);
    }
going-more along bs fs d f i initial old new was now false small l k e g o up kept =
    let lead = LeadsTo along bs fs in
    let s = o.settled refl in
    let same : now ≡ was = kept refl in
    record {
      spreads = subst (Spreads lead initial) (sym s.0) g.spreads;
      settled = λ h.
          let before = g.settled (sym same ∙ h) in (
            s.0 ∙ before.0,
            AllZip_more (IsClosedOver along new) bs fs i d (pos 0) l k (subst (λ (vs : List ℕ). AllZip (IsClosedOver along vs) (take i bs) (take i fs)) (sym s.0) before.1)
                (subst (λ (x : ℤ). IsClosedOver along new (get_or bs i d) x) e s.1),
          );
      less = λ h. subst (λ (vs : List ℕ). room_of vs < room_of initial) (sym s.0) (g.less (sym same ∙ h));
    }

-- where own values are small, so are those that they come to
pub spread-small : (lead : ℕ → ℕ → Type 0) (own vs : List ℕ) → IsSpread lead own vs → AreSmall own → AreSmall vs
spread-small lead own vs s small =
    All-from_get_or (λ n. n ≤ most_value) vs 0 (λ z l.
    let h = s.source z (omega (arith, l, s.one_each)) in
    omega (arith, h.value, small h.from 0 h.there))
