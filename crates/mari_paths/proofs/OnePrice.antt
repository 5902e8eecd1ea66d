-- What runs at one price in each zone, as far as borders carry it.
use Rattle.std.proofs.Common.{◌≡◌, ◌≢◌, ◌⊎◌, ◌+◌, ◌<◌, ◌≤◌, ℕ, ℤ, pos, ◌+ℤ◌, ◌≤ℤ◌, ◌<ℤ◌, neg_ℤ, List, [], ◌∷◌, Vec, Global, length, get_or, arith, ap, refl, sym, subst, ◌∙◌, inl, inr}
use Rattle.std.proofs.lemmas.Int.{by_lt_z, ints}
use Rattle.std.proofs.lemmas.Bool.{cases_eq}
use Rattle.std.proofs.lemmas.List.{get_or_default}
use Rattle.std.proofs.lemmas.List.Elements.{All-head, All-tail}
use Rattle.std.specs.List.{All, AllZip}
use Rattle.mari_market.specs.declared.market.Border.{Border}
use Rattle.mari_market.specs.declared.market.Market.{Market}
use Rattle.mari_market.specs.Sums.{int_at, int_sum}
use Rattle.mari_network.specs.declared.network.Rung.{Rung}
use Rattle.mari_network.specs.declared.slots.Slot.{Slot}
use Rattle.mari_network.specs.declared.slots.TheConstants.{BEYOND}
use Rattle.mari_network.specs.Slots.{price_of, slot_at, zone_of}
use Rattle.mari_paths.specs.declared.curves.Curve.{Curve}
use Rattle.mari_paths.specs.Merit.{as_carried, least_of, run_at, supplied, supplied_by_all, supply_of, supply_of_all, AreLadders, IsBalancing, IsByMerit, IsCurveOf, IsOrderRange, RunsAt}
use Rattle.mari_paths.specs.Starts.{IsInOrder}
use Rattle.mari_paths.proofs.Cheapest.{ladder_in_order, run_least, run_whole, AreInOrder}

-- each curve says what the slots of its ladder put in
abbrev pub AreCurvesOf : List Slot → List (Vec Rung Global) → List Curve → Type 0
AreCurvesOf slots ladders curves = AllZip (λ (v : Vec Rung Global) (c : Curve). IsCurveOf slots v.items c) ladders curves

supply_of_ladders : (slots : List Slot) (ladders : List (Vec Rung Global)) (curves : List Curve) (p : ℤ) → AreCurvesOf slots ladders curves
    → supplied_by_all curves p ≡ int_sum (λ (v : Vec Rung Global). supply_of slots v.items p) ladders
supply_of_ladders slots [] [] p a = refl
supply_of_ladders slots (v ∷ vs) (c ∷ cs) p a = omega (arith, ints, a.0.supply p, supply_of_ladders slots vs cs p a.1)
supply_of_ladders slots [] (c ∷ cs) p a = absurd a
supply_of_ladders slots (v ∷ vs) [] p a = absurd a

same_supply : (slots : List Slot) (ladders : List (Vec Rung Global)) (curves : List Curve) (p : ℤ) → AreLadders slots ladders → AreCurvesOf slots ladders curves
    → supplied_by_all curves p ≡ supply_of_all slots p
same_supply slots ladders curves p fine a = supply_of_ladders slots ladders curves p a ∙ fine.once (run_at p)

-- the curves balance where the slots do
pub balances : (slots : List Slot) (ladders : List (Vec Rung Global)) (curves : List Curve) (p : ℤ)
    → AreLadders slots ladders → AreCurvesOf slots ladders curves → IsBalancing (supplied_by_all curves) p → IsBalancing (supply_of_all slots) p
balances slots ladders curves p fine a b = record {
  here = subst (λ (x : ℤ). (p ≡ neg_ℤ BEYOND) ⊎ (x ≤ℤ pos 0)) (same_supply slots ladders curves p fine a) b.here;
  above = subst (λ (x : ℤ). (p +ℤ pos 1 ≡ BEYOND) ⊎ (pos 0 <ℤ x)) (same_supply slots ladders curves (p +ℤ pos 1) fine a) b.above;
}

same_sum : (ladder : List Rung) (xs ys : List ℤ) → All (λ (r : Rung). int_at ys r.place ≡ int_at xs r.place) ladder
    → int_sum (λ (r : Rung). int_at ys r.place) ladder ≡ int_sum (λ (r : Rung). int_at xs r.place) ladder
same_sum [] xs ys a = refl
same_sum (r ∷ rs) xs ys a =
    omega (arith, ints, All-head (λ (q : Rung). int_at ys q.place ≡ int_at xs q.place) r rs a, same_sum rs xs ys (All-tail (λ (q : Rung). int_at ys q.place ≡ int_at xs q.place) r rs a))

-- the ladder's slots stay as they are
pub merit_stays : (slots : List Slot) (ladder : List Rung) (wanted : ℤ) (xs ys : List ℤ) → All (λ (r : Rung). int_at ys r.place ≡ int_at xs r.place) ladder → IsByMerit slots ladder wanted xs
    → IsByMerit slots ladder wanted ys
merit_stays slots ladder wanted xs ys same a = record {
  whole = λ j d l w. same j d l ∙ a.whole j d l w;
  least = λ j d l w. same j d l ∙ a.least j d l w;
  total = λ low high. same_sum ladder xs ys same ∙ a.total low high;
}

-- no slot stands on two zones' ladders
pub apart : (slots : List Slot) (ladders : List (Vec Rung Global)) (y z : ℕ) (u v : Vec Rung Global) → AreLadders slots ladders → y < length ladders → z < length ladders → z ≢ y
    → All (λ (r : Rung). All (λ (q : Rung). q.place ≢ r.place) (get_or ladders y u).items) (get_or ladders z v).items
apart slots ladders y z u v a k l other j d m i e n same =
    other (sym (a.zone z v l j d m) ∙ ap (λ (k : ℕ). zone_of slots k) (sym same) ∙ a.zone y u k i e n)

run_rises : (a b : ℤ) (s : Slot) → IsInOrder s → a ≤ℤ b → run_at a s ≤ℤ run_at b s
run_rises a b s o l = grind (arith, ints)

pub supply_rises : (slots : List Slot) (ladder : List Rung) (a b : ℤ) → AreInOrder slots ladder → a ≤ℤ b → supply_of slots ladder a ≤ℤ supply_of slots ladder b
supply_rises slots [] a b o l = omega (arith, ints)
supply_rises slots (r ∷ rs) a b o l =
    omega (
      arith,
      ints,
      run_rises a b (slot_at slots r.place) (All-head (λ (q : Rung). IsInOrder (slot_at slots q.place)) r rs o) l,
      supply_rises slots rs a b (All-tail (λ (q : Rung). IsInOrder (slot_at slots q.place)) r rs o) l,
    )

-- where borders carry all that is put in at a price, each slot puts in what it does at it
pub runs_as_at : (slots : List Slot) (ladder : List Rung) (p wanted : ℤ) (xs : List ℤ) → AreInOrder slots ladder → All (λ (r : Rung). r.price ≡ price_of slots r.place) ladder
    → wanted ≡ supply_of slots ladder p
    → IsByMerit slots ladder wanted xs → All (λ (r : Rung). int_at xs r.place ≡ run_at p (slot_at slots r.place)) ladder
runs_as_at slots ladder p wanted xs o prices e a j d l =
    by_lt_z (get_or ladder j d).price p
    (λ h. a.whole j d l (omega (arith, ints, e, supply_rises slots ladder ((get_or ladder j d).price +ℤ pos 1) p o (omega (arith, ints, h))))
    ∙ sym (run_whole p (slot_at slots (get_or ladder j d).place) (omega (arith, ints, h, prices j d l))))
    (λ h. a.least j d l (omega (arith, ints, e, supply_rises slots ladder p (get_or ladder j d).price o h))
    ∙ sym (run_least p (slot_at slots (get_or ladder j d).place) (omega (arith, ints, h, prices j d l))))

-- a zone of which this is the curve runs as its borders carry it
pub merit_of_curve : (slots : List Slot) (ladder : List Rung) (c : Curve) (bs : List Border) (z : ℕ) (p more : ℤ) (xs : List ℤ) → IsCurveOf slots ladder c
    → c.least +ℤ more ≡ as_carried bs z (supplied p c)
    → IsByMerit slots ladder (least_of slots ladder +ℤ more) xs → IsByMerit slots ladder (as_carried bs z (supply_of slots ladder p)) xs
merit_of_curve slots ladder c bs z p more xs of e a =
    subst (λ (w : ℤ). IsByMerit slots ladder w xs) (ap (λ (x : ℤ). x +ℤ more) (sym of.least) ∙ e ∙ ap (λ (x : ℤ). as_carried bs z x) (of.supply p)) a

-- the first zones run as borders carry it, and in the rest each slot its least
pub record AreZonesRun (slots : List Slot) (ladders : List (Vec Rung Global)) (bs : List Border) (p : ℤ) (zone : ℕ) (xs : List ℤ) : Type 0 where
  pub done : (z : ℕ) (v : Vec Rung Global) → z < zone → z < length ladders → IsByMerit slots (get_or ladders z v).items (as_carried bs z (supply_of slots (get_or ladders z v).items p)) xs
  pub rest : (z : ℕ) (v : Vec Rung Global) → zone ≤ z → z < length ladders → All (λ (r : Rung). int_at xs r.place ≡ (slot_at slots r.place).low) (get_or ladders z v).items

before_zone : (z zone : ℕ) → z < zone + 1 → (z ≡ zone → ⊥) → z < zone
before_zone z zone l other = omega (arith, l, other)

-- a zone more
pub zone_more : (slots : List Slot) (ladders : List (Vec Rung Global)) (bs : List Border) (p : ℤ) (zone : ℕ) (u : Vec Rung Global) (xs ys : List ℤ) → AreLadders slots ladders → zone < length ladders
    → IsByMerit slots (get_or ladders zone u).items (as_carried bs zone (supply_of slots (get_or ladders zone u).items p)) ys
    → ((k : ℕ) → All (λ (r : Rung). r.place ≢ k) (get_or ladders zone u).items → int_at ys k ≡ int_at xs k) → AreZonesRun slots ladders bs p zone xs → AreZonesRun slots ladders bs p (zone + 1) ys
zone_more slots ladders bs p zone u xs ys a there merit others h = record {
  done = λ z v l m. elim (cases_eq z zone) [
    | inl same ↦
        subst (λ (k : ℕ). IsByMerit slots (get_or ladders k v).items (as_carried bs k (supply_of slots (get_or ladders k v).items p)) ys) (sym same)
        (subst (λ (w : Vec Rung Global). IsByMerit slots w.items (as_carried bs zone (supply_of slots w.items p)) ys) (get_or_default ladders zone u v there) merit)
    | inr other ↦
        merit_stays slots (get_or ladders z v).items (as_carried bs z (supply_of slots (get_or ladders z v).items p)) xs ys
        (λ j d i. others (get_or (get_or ladders z v).items j d).place (apart slots ladders zone z u v a there m other j d i)) (h.done z v (before_zone z zone l other) m)
  ];
  rest = λ z v l m j d i.
      others (get_or (get_or ladders z v).items j d).place (apart slots ladders zone z u v a there m (λ e. absurd (omega (arith, e, l))) j d i) ∙ h.rest z v (omega (arith, l)) m j d i;
}

-- all zones have run
pub all_run : (m : Market) (slots : List Slot) (ladders : List (Vec Rung Global)) (p : ℤ) (zone : ℕ) (xs : List ℤ)
    → AreLadders slots ladders → All IsOrderRange slots → length ladders ≡ m.zones → m.zones ≤ zone
    → IsBalancing (supply_of_all slots) p → AreZonesRun slots ladders m.borders p zone xs → RunsAt m slots ladders xs p
all_run m slots ladders p zone xs a ranges long end balancing h = record {
  balancing = balancing;
  each = λ z v l. h.done z v (omega (arith, l, end)) (omega (arith, l, long));
  carried = λ z v l e.
      let there : z < length ladders = omega (arith, l, long) in
      runs_as_at slots (get_or ladders z v).items p (as_carried m.borders z (supply_of slots (get_or ladders z v).items p)) xs
      (ladder_in_order slots (get_or ladders z v).items ranges (a.each z v there)) (a.each z v there).price e
      (h.done z v (omega (arith, l, end)) there);
}
