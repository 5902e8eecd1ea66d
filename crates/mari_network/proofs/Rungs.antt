-- Ladders: the rungs of a zone's slots, and what the first or the last that may go on say of all.
use Rattle.std.proofs.Common.{◌≡◌, ℕ, zero, suc, ◌+◌, ◌<◌, ◌≤◌, ℤ, pos, ◌+ℤ◌, ◌≤ℤ◌, ◌<ℤ◌, List, [], ◌∷◌, ◌++◌, length, get_or, arith, refl, sym, ap, subst, ◌∙◌, inl, inr, true, false, not, Option, Some}
use Rattle.std.proofs.lemmas.Int.{ints}
use Rattle.std.proofs.lemmas.Bool.{cases_eq, cases_lt}
use Rattle.std.proofs.lemmas.List.{get_or_default, length-append}
use Rattle.std.proofs.lemmas.List.Elements.{All-push, Contains-append_left, Contains-push}
use Rattle.std.proofs.lemmas.List.Sorted.{All-permutation, Contains-permutation, length_permutation}
use lib.Signed.{lt_z}
use Rattle.std.specs.List.{All, Contains}
use Rattle.std.specs.List.Sorted.{IsPermutation, IsPartitionedBy}
use Rattle.mari_network.specs.declared.slots.Slot.{Slot}
use Rattle.mari_network.specs.declared.slots.TheConstants.{BEYOND}
use Rattle.mari_network.specs.declared.network.Places.{Places}
use Rattle.mari_network.specs.declared.network.Rung.{Rung}
use Rattle.mari_market.specs.declared.market.Border.{Border}
use Rattle.mari_market.proofs.Moved.{sum_moved, sum_push}
use Rattle.mari_network.specs.Slots.{at_zone, slot_at, zone_of, price_of, no_slot, CanLess, CanMore, IsSmallSlot}
use Rattle.mari_network.specs.Network.{rung_at, rung_of, sum_of_zone, no_rung, ArePlaces, AreRungs, IsLadder, IsRising}
use Rattle.mari_network.specs.Margins.{IsAbove, IsBelow, IsDearestIn, IsCheapestIn, IsDearestRung, IsCheapestRung, IsDearestTo, IsCheapestFrom}
use Rattle.mari_network.proofs.Marginal.{some_same}

zone_here : (z y : ℕ) (x : ℤ) → y ≡ z → at_zone z y x ≡ x
zone_here z y x e = grind (arith)

zone_elsewhere : (z y : ℕ) (x : ℤ) → (y ≡ z → ⊥) → at_zone z y x ≡ pos 0
zone_elsewhere z y x n = grind (arith)

one_more : (f : ℕ → ℤ) (slots : List Slot) (z n : ℕ) → sum_of_zone f slots z (n + 1) ≡ sum_of_zone f slots z n +ℤ at_zone z (zone_of slots n) (f n)
one_more f slots z n = let e : n + 1 ≡ suc n = omega arith in ap (sum_of_zone f slots z) e

sum_stays : (f : ℕ → ℤ) (before after : List Slot) (z n : ℕ) → ((k : ℕ) → k < n → zone_of after k ≡ zone_of before k) → sum_of_zone f before z n ≡ sum_of_zone f after z n
sum_stays f before after z zero same = refl
sum_stays f before after z (suc n) same =
    omega (arith, ints, sum_stays f before after z n (λ k l. same k (omega (arith, l))), ap (λ (y : ℕ). at_zone z y (f n)) (same n (omega arith)))

-- one slot more among a zone's, or among another's
pub rungs_take : (slots : List Slot) (n z : ℕ) (rungs : List Rung) → zone_of slots n ≡ z → AreRungs slots n z rungs → AreRungs slots (n + 1) z (rungs ++ rung_of slots n ∷ [])
rungs_take slots n z rungs e a = record {
  few = omega (arith, a.few, length-append rungs (rung_of slots n ∷ []));
  there = All-push (λ (r : Rung). r.place < n + 1) rungs (rung_of slots n) (λ k d l. omega (arith, a.there k d l)) (omega arith);
  zone = All-push (λ (r : Rung). zone_of slots r.place ≡ z) rungs (rung_of slots n) a.zone e;
  price = All-push (λ (r : Rung). r.price ≡ price_of slots r.place) rungs (rung_of slots n) a.price refl;
  all = λ k l h. elim (cases_lt k n) [
    | inl b ↦ Contains-append_left rungs (rung_of slots n ∷ []) (rung_of slots k) (a.all k b h)
    | inr b ↦ let same : n ≡ k = omega arith in subst (λ (j : ℕ). Contains (rungs ++ rung_of slots n ∷ []) (rung_of slots j)) same (Contains-push rungs (rung_of slots n))
  ];
  once = λ f. omega (arith, ints, sum_push (λ (r : Rung). f r.place) rungs (rung_of slots n), a.once f, one_more f slots z n, zone_here z (zone_of slots n) (f n) e);
}

pub rungs_skip : (slots : List Slot) (n z : ℕ) (rungs : List Rung) → (zone_of slots n ≡ z → ⊥) → AreRungs slots n z rungs → AreRungs slots (n + 1) z rungs
rungs_skip slots n z rungs other a = record {
  few = omega (arith, a.few);
  there = λ k d l. omega (arith, a.there k d l);
  zone = a.zone;
  price = a.price;
  all = λ k l h. elim (cases_lt k n) [
    | inl b ↦ a.all k b h
    | inr b ↦ let same : n ≡ k = omega arith in absurd (other (ap (zone_of slots) same ∙ h))
  ];
  once = λ f. omega (arith, ints, a.once f, one_more f slots z n, zone_elsewhere z (zone_of slots n) (f n) other);
}

-- in another order
pub rungs_moved : (slots : List Slot) (n z : ℕ) (before after : List Rung) → IsPermutation before after → AreRungs slots n z before → AreRungs slots n z after
rungs_moved slots n z before after same a = record {
  few = omega (arith, a.few, length_permutation before after same);
  there = All-permutation (λ (r : Rung). r.place < n) before after same a.there;
  zone = All-permutation (λ (r : Rung). zone_of slots r.place ≡ z) before after same a.zone;
  price = All-permutation (λ (r : Rung). r.price ≡ price_of slots r.place) before after same a.price;
  all = λ k l h. Contains-permutation before after (rung_of slots k) same (a.all k l h);
  once = λ f. sum_moved (λ (r : Rung). f r.place) before after same ∙ a.once f;
}

-- no slot on the ladders changes its zone or its price
pub ladder_stays : (before after : List Slot) (n z : ℕ) (ladder : List Rung) → ((k : ℕ) → k < n → zone_of after k ≡ zone_of before k) → ((k : ℕ) → k < n → price_of after k ≡ price_of before k)
    → IsLadder before n z ladder → IsLadder after n z ladder
ladder_stays before after n z ladder zones prices a = record {
  rungs = record {
    few = a.rungs.few;
    there = a.rungs.there;
    zone = λ k d l. zones (get_or ladder k d).place (a.rungs.there k d l) ∙ a.rungs.zone k d l;
    price = λ k d l. a.rungs.price k d l ∙ sym (prices (get_or ladder k d).place (a.rungs.there k d l));
    all = λ k l h. subst (λ (p : ℤ). Contains ladder (record { price = p; place = k })) (sym (prices k l)) (a.rungs.all k l (sym (zones k l) ∙ h));
    once = λ f. a.rungs.once f ∙ sum_stays f before after z n zones;
  };
  rising = a.rising;
}

pub not_true : (a b : ℤ) → not (lt_z a b) ≡ true → b ≤ℤ a
not_true a b h = grind (arith, ints)

is_not : (a b : ℤ) → b ≤ℤ a → not (lt_z a b) ≡ true
is_not a b h = grind (arith, ints)

pub not_false : (a b : ℤ) → not (lt_z a b) ≡ false → a <ℤ b
not_false a b h = grind (arith, ints)

-- the rungs that cost at most a price are the first
pub parted_to : (ladder : List Rung) (top : ℤ) → IsRising ladder → IsPartitionedBy (λ (r : Rung). not (lt_z top r.price)) ladder
parted_to ladder top up i j d le l h = is_not top ((get_or ladder i d).price) (omega (arith, ints, up i j d le l, not_true top ((get_or ladder j d).price) h))

-- where a slot of the zone stands on its ladder
record IsAtRung (ladder : List Rung) (k : ℕ) (v : ℤ) : Type 0 where
  at : ℕ
  there : at < length ladder
  place : (rung_at ladder at).place ≡ k
  price : (rung_at ladder at).price ≡ v

rung_of_slot : (slots : List Slot) (n z : ℕ) (ladder : List Rung) (k : ℕ) → IsLadder slots n z ladder → k < n → zone_of slots k ≡ z → IsAtRung ladder k (price_of slots k)
rung_of_slot slots n z ladder k a l e =
    let j = a.rungs.all k l e in
    let same : rung_at ladder j.0 ≡ rung_of slots k = get_or_default ladder j.0 no_rung (rung_of slots k) j.1 ∙ j.2 in
    record { at = j.0; there = j.1; place = ap (λ (r : Rung). r.place) same; price = ap (λ (r : Rung). r.price) same }

-- what a rung says of its slot
record IsOfRung (slots : List Slot) (n z : ℕ) (k : ℕ) (v : ℤ) : Type 0 where
  zone : zone_of slots k ≡ z
  first : k < n
  price : v ≡ price_of slots k

slot_at_rung : (slots : List Slot) (n z : ℕ) (ladder : List Rung) (k j : ℕ) → IsLadder slots n z ladder → j < length ladder → (rung_at ladder j).place ≡ k
    → IsOfRung slots n z k (rung_at ladder j).price
slot_at_rung slots n z ladder k j a l here = record {
  zone = sym (ap (zone_of slots) here) ∙ a.rungs.zone j no_rung l;
  first = subst (λ (i : ℕ). i < n) here (a.rungs.there j no_rung l);
  price = a.rungs.price j no_rung l ∙ ap (price_of slots) here;
}

-- the dearest on a ladder's first rungs is that of its slots which cost at most so much
pub dearest_on : (slots : List Slot) (xs : List ℤ) (n z : ℕ) (ladder : List Rung) (top : ℤ) (end : ℕ) (best : Option ℕ)
    → IsLadder slots n z ladder → end ≤ length ladder → ((j : ℕ) (d : Rung) → j < end → (get_or ladder j d).price ≤ℤ top)
    → ((j : ℕ) (d : Rung) → end ≤ j → j < length ladder → top <ℤ (get_or ladder j d).price)
    → IsDearestRung slots xs ladder 0 end best → IsDearestTo slots xs z n top best
dearest_on slots xs n z ladder top end best a few low above d = record {
  one = λ i e.
      let o = d.one i e in
      let r = slot_at_rung slots n z ladder i o.1 a (omega (arith, o.3, few)) o.4 in
      (o.0, r.zone, r.first, omega (arith, ints, r.price, low o.1 no_rung o.3));
  all = λ k l can e most.
      let r = rung_of_slot slots n z ladder k a l e in
      elim (cases_lt r.at end) [
        | inl before ↦ subst (λ (v : ℤ). IsAbove slots v best) r.price (d.all r.at (omega arith) before (subst (λ (j : ℕ). CanLess slots xs j) (sym r.place) can))
        | inr after ↦ absurd (omega (arith, ints, above r.at no_rung after r.there, r.price, most))
      ];
}

pub cheapest_on : (slots : List Slot) (xs : List ℤ) (n z : ℕ) (ladder : List Rung) (least : ℤ) (start : ℕ) (best : Option ℕ)
    → IsLadder slots n z ladder
    → ((j : ℕ) (d : Rung) → j < start → (get_or ladder j d).price <ℤ least)
    → ((j : ℕ) (d : Rung) → start ≤ j → j < length ladder → least ≤ℤ (get_or ladder j d).price)
    → IsCheapestRung slots xs ladder start (length ladder) best → IsCheapestFrom slots xs z n least best
cheapest_on slots xs n z ladder least start best a below high d = record {
  one = λ i e.
      let o = d.one i e in
      let r = slot_at_rung slots n z ladder i o.1 a o.3 o.4 in
      (o.0, r.zone, r.first, omega (arith, ints, r.price, high o.1 no_rung o.2 o.3));
  all = λ k l can e from.
      let r = rung_of_slot slots n z ladder k a l e in
      elim (cases_lt r.at start) [
        | inl before ↦ absurd (omega (arith, ints, below r.at no_rung before, r.price, from))
        | inr after ↦ subst (λ (v : ℤ). IsBelow slots v best) r.price (d.all r.at after r.there (subst (λ (j : ℕ). CanMore slots xs j) (sym r.place) can))
      ];
}

-- no slot costs more than what stands in where it gives energy, and none less than where it takes it
pub dearest_of_all : (slots : List Slot) (xs : List ℤ) (z n : ℕ) (best : Option ℕ) → All IsSmallSlot slots → IsDearestTo slots xs z n BEYOND best → IsDearestIn slots xs z n best
dearest_of_all slots xs z n best small d = record { one = λ i e. let o = d.one i e in (o.0, o.1, o.2); all = λ k l can e. d.all k l can e (small k no_slot can.0).dear }

pub cheapest_of_all : (slots : List Slot) (xs : List ℤ) (z n : ℕ) (least : ℤ) (best : Option ℕ)
    → All IsSmallSlot slots → ((s : Slot) → IsSmallSlot s → least ≤ℤ s.price) → IsCheapestFrom slots xs z n least best → IsCheapestIn slots xs z n best
cheapest_of_all slots xs z n least best small low c = record { one = λ i e. let o = c.one i e in (o.0, o.1, o.2); all = λ k l can e. c.all k l can e (low (slot_at slots k) (small k no_slot can.0)) }

-- one rung more at the beginning of those that were looked at
pub dearest_rung_skip : (slots : List Slot) (xs : List ℤ) (ladder : List Rung) (at end : ℕ) (best : Option ℕ) → (CanLess slots xs (rung_at ladder at).place → ⊥)
    → IsDearestRung slots xs ladder (at + 1) end best → IsDearestRung slots xs ladder at end best
dearest_rung_skip slots xs ladder at end best cannot d = record {
  one = λ i e. let o = d.one i e in (o.0, o.1, omega (arith, o.2), o.3, o.4);
  all = λ j g l can. elim (cases_eq j at) [
    | inl is ↦ absurd (cannot (subst (λ (k : ℕ). CanLess slots xs (rung_at ladder k).place) is can))
    | inr other ↦ d.all j (omega (arith, g, other)) l can
  ];
}

pub dearest_rung_take : (slots : List Slot) (xs : List ℤ) (ladder : List Rung) (at end place : ℕ) (price : ℤ) (best : Option ℕ) → at < end → (rung_at ladder at).place ≡ place
    → (rung_at ladder at).price ≡ price
    → price_of slots place ≡ price → CanLess slots xs place → ((v : ℤ) → IsAbove slots v best → v ≤ℤ price)
    → IsDearestRung slots xs ladder (at + 1) end best → IsDearestRung slots xs ladder at end (Some place)
dearest_rung_take slots xs ladder at end place price best l here cost own can low d = record {
  one = λ i e. let same : place ≡ i = some_same place i e in (subst (λ (k : ℕ). CanLess slots xs k) same can, at, omega arith, l, here ∙ same);
  all = λ j g m less. elim (cases_eq j at) [
    | inl is ↦ omega (arith, ints, ap (λ (k : ℕ). (rung_at ladder k).price) is, cost, own)
    | inr other ↦ omega (arith, ints, low (rung_at ladder j).price (d.all j (omega (arith, g, other)) m less), own)
  ];
}

-- no slot changes its zone, and none on the ladders its price
pub places_stay : (zones : ℕ) (before after : List Slot) (bs : List Border) (p : Places) → length after ≡ length before → ((k : ℕ) → zone_of after k ≡ zone_of before k)
    → ((k : ℕ) → k < p.on_ladders → price_of after k ≡ price_of before k) → ArePlaces zones before bs p → ArePlaces zones after bs p
places_stay zones before after bs p long same prices a = record {
  ladders_long = a.ladders_long;
  meeting_long = a.meeting_long;
  few = omega (arith, a.few, long);
  stand_ins = λ k g l. omega (arith, a.stand_ins k g (omega (arith, l, long)), same k);
  ladders = λ z v l. ladder_stays before after p.on_ladders z (get_or p.ladders.items z v).items (λ k m. same k) prices (a.ladders z v l);
  meeting = a.meeting;
}
