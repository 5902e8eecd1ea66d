-- The marginal slots with one slot more, and what they say of all slots.
use Rattle.std.proofs.Common.{◌≡◌, ℕ, ◌<◌, ◌≤◌, ℤ, ◌≤ℤ◌, List, [], ◌∷◌, ◌++◌, ◌+◌, length, get_or, arith, refl, sym, ap, subst, ◌∙◌, inl, inr, Bool, false, Option, Some, None, ◌⊎◌, ◌<ℤ◌}
use Rattle.std.specs.Prelude.{IfSome}
use Rattle.std.proofs.lemmas.Int.{ints}
use Rattle.std.proofs.lemmas.Bool.{cases_eq, cases_lt}
use Rattle.std.proofs.lemmas.List.{get_or_append_left, get_or_push}
use Rattle.mari_network.specs.declared.slots.Slot.{Slot}
use Rattle.mari_network.specs.declared.margins.Margin.{Margin}
use Rattle.mari_market.specs.Sums.{int_at}
use Rattle.mari_network.specs.Slots.{slot_at, zone_of, price_of, CanLess, CanMore}
use Rattle.mari_network.specs.Spread.{is_marked}
use Rattle.mari_network.specs.Margins.{no_margin, dearest_at, IsAbove, IsBelow, IsDearestIn, IsCheapestIn, IsDearestTo, IsCheapestFrom, IsDearestBut, IsCheapestBut, IsMarginIn, IsMoved, AreMargins, IsDearest, NoneLess, IsDearestOf}

abbrev some_or : Option ℕ → ℕ
some_or None = 0
some_or (Some i) = i

pub some_same : (i k : ℕ) → Some i ≡ Some k → i ≡ k
some_same i k e = ap (λ (o : Option ℕ). some_or o) e

module _ (slots : List Slot) (old new : List ℤ) (sink source : ℕ) (moved : IsMoved slots old new sink source) (z n : ℕ) (best : Option ℕ) where
  -- after energy moved, none of the first n but the source may put in less than before
  less_before : IsDearestIn slots old z n best → (k : ℕ) → k < n → (k ≡ source → ⊥) → CanLess slots new k → zone_of slots k ≡ z → IsAbove slots (price_of slots k) best
  less_before d k l far can e = elim (cases_eq k sink) [
    | inl is ↦
        let below : (slot_at slots sink).low <ℤ int_at new sink = subst (λ (j : ℕ). (slot_at slots j).low <ℤ int_at new j) is can.1 in
        d.all k l (can.0, subst (λ (j : ℕ). (slot_at slots j).low <ℤ int_at old j) (sym is) (omega (arith, ints, moved.less, below))) e
    | inr other ↦ d.all k l (can.0, subst (λ (x : ℤ). (slot_at slots k).low <ℤ x) (moved.others k other far) can.1) e
  ]

  -- the dearest slot may put in less as before, unless it is the sink and may not
  pub dearest_stays : (best ≡ Some sink → (slot_at slots sink).low <ℤ int_at new sink) → IsDearestIn slots old z n best → IsDearestBut slots new z n source best
  dearest_stays stays d = record {
    one = λ i e.
        let o = d.one i e in
        elim (cases_eq i sink) [
          | inl is ↦ ((o.0.0, subst (λ (k : ℕ). (slot_at slots k).low <ℤ int_at new k) (sym is) (stays (e ∙ ap (λ (k : ℕ). Some k) is))), o.1, o.2)
          | inr other ↦ elim (cases_eq i source) [
            | inl is ↦ ((o.0.0, subst (λ (k : ℕ). (slot_at slots k).low <ℤ int_at new k) (sym is) (omega (arith, ints, moved.least, moved.more))), o.1, o.2)
            | inr far ↦ ((o.0.0, subst (λ (x : ℤ). (slot_at slots i).low <ℤ x) (sym (moved.others i other far)) o.0.1), o.1, o.2)
          ]
        ];
    all = λ k l far can e. less_before d k l far can e;
  }

  -- where it is the sink, none that is dearer may put in less
  pub dearest_anew : (next : Option ℕ) → best ≡ Some sink → IsDearestTo slots new z n (price_of slots sink) next → IsDearestIn slots old z n best → IsDearestBut slots new z n source next
  dearest_anew next was to d = record {
    one = λ i e. let o = to.one i e in (o.0, o.1, o.2);
    all = λ k l far can e. to.all k l can e (subst (λ (b : Option ℕ). IsAbove slots (price_of slots k) b) was (less_before d k l far can e));
  }

  pub dearest_with_source : (next : Option ℕ) → source < length slots → source < n → zone_of slots source ≡ z
      → ((next ≡ best) ⊎ (next ≡ Some source)) → IsAbove slots (price_of slots source) next
      → ((v : ℤ) → IsAbove slots v best → IsAbove slots v next) → IsDearestBut slots new z n source best
      → IsDearestIn slots new z n next
  dearest_with_source next there first here one above keeps d = record {
    one = λ i h. elim one [
      | inl same ↦ d.one i (sym same ∙ h)
      | inr is ↦
          let k_is : source ≡ i = some_same source i (sym is ∙ h) in
          (subst (λ (k : ℕ). CanLess slots new k) k_is (there, omega (arith, ints, moved.least, moved.more)), sym (ap (zone_of slots) k_is) ∙ here, omega (arith, first, k_is))
    ];
    all = λ k l can e. elim (cases_eq k source) [
      | inl is ↦ subst (λ (j : ℕ). IsAbove slots (price_of slots j) next) (sym is) above
      | inr far ↦ keeps (price_of slots k) (d.all k l far can e)
    ];
  }

  pub dearest_without_source : (source < n → zone_of slots source ≡ z → ⊥) → IsDearestBut slots new z n source best → IsDearestIn slots new z n best
  dearest_without_source away d = record {
    one = d.one;
    all = λ k l can e. d.all k l (λ is. away (omega (arith, l, is)) (sym (ap (zone_of slots) is) ∙ e)) can e;
  }

  -- the same of the cheapest slot, with sink and source exchanged
  more_before : IsCheapestIn slots old z n best → (k : ℕ) → k < n → (k ≡ sink → ⊥) → CanMore slots new k → zone_of slots k ≡ z → IsBelow slots (price_of slots k) best
  more_before c k l far can e = elim (cases_eq k source) [
    | inl is ↦
        let above : int_at new source <ℤ (slot_at slots source).high = subst (λ (j : ℕ). int_at new j <ℤ (slot_at slots j).high) is can.1 in
        c.all k l (can.0, subst (λ (j : ℕ). int_at old j <ℤ (slot_at slots j).high) (sym is) (omega (arith, ints, moved.more, above))) e
    | inr other ↦ c.all k l (can.0, subst (λ (x : ℤ). x <ℤ (slot_at slots k).high) (moved.others k far other) can.1) e
  ]

  pub cheapest_stays : (best ≡ Some source → int_at new source <ℤ (slot_at slots source).high) → IsCheapestIn slots old z n best → IsCheapestBut slots new z n sink best
  cheapest_stays stays c = record {
    one = λ i e.
        let o = c.one i e in
        elim (cases_eq i source) [
          | inl is ↦ ((o.0.0, subst (λ (k : ℕ). int_at new k <ℤ (slot_at slots k).high) (sym is) (stays (e ∙ ap (λ (k : ℕ). Some k) is))), o.1, o.2)
          | inr other ↦ elim (cases_eq i sink) [
            | inl is ↦ ((o.0.0, subst (λ (k : ℕ). int_at new k <ℤ (slot_at slots k).high) (sym is) (omega (arith, ints, moved.less, moved.most))), o.1, o.2)
            | inr far ↦ ((o.0.0, subst (λ (x : ℤ). x <ℤ (slot_at slots i).high) (sym (moved.others i far other)) o.0.1), o.1, o.2)
          ]
        ];
    all = λ k l far can e. more_before c k l far can e;
  }

  pub cheapest_anew : (next : Option ℕ) → best ≡ Some source → IsCheapestFrom slots new z n (price_of slots source) next → IsCheapestIn slots old z n best → IsCheapestBut slots new z n sink next
  cheapest_anew next was from c = record {
    one = λ i e. let o = from.one i e in (o.0, o.1, o.2);
    all = λ k l far can e. from.all k l can e (subst (λ (b : Option ℕ). IsBelow slots (price_of slots k) b) was (more_before c k l far can e));
  }

  pub cheapest_with_sink : (next : Option ℕ) → sink < length slots → sink < n → zone_of slots sink ≡ z
      → ((next ≡ best) ⊎ (next ≡ Some sink)) → IsBelow slots (price_of slots sink) next
      → ((v : ℤ) → IsBelow slots v best → IsBelow slots v next) → IsCheapestBut slots new z n sink best
      → IsCheapestIn slots new z n next
  cheapest_with_sink next there first here one below keeps c = record {
    one = λ i h. elim one [
      | inl same ↦ c.one i (sym same ∙ h)
      | inr is ↦
          let k_is : sink ≡ i = some_same sink i (sym is ∙ h) in
          (subst (λ (k : ℕ). CanMore slots new k) k_is (there, omega (arith, ints, moved.less, moved.most)), sym (ap (zone_of slots) k_is) ∙ here, omega (arith, first, k_is))
    ];
    all = λ k l can e. elim (cases_eq k sink) [
      | inl is ↦ subst (λ (j : ℕ). IsBelow slots (price_of slots j) next) (sym is) below
      | inr far ↦ keeps (price_of slots k) (c.all k l far can e)
    ];
  }

  pub cheapest_without_sink : (sink < n → zone_of slots sink ≡ z → ⊥) → IsCheapestBut slots new z n sink best → IsCheapestIn slots new z n best
  cheapest_without_sink away c = record {
    one = c.one;
    all = λ k l can e. c.all k l (λ is. away (omega (arith, l, is)) (sym (ap (zone_of slots) is) ∙ e)) can e;
  }

pub above_stays : (before after : List Slot) (v : ℤ) (best : Option ℕ) → ((i : ℕ) → best ≡ Some i → slot_at after i ≡ slot_at before i) → IsAbove before v best → IsAbove after v best
above_stays before after v best same a = grind arith

pub below_stays : (before after : List Slot) (v : ℤ) (best : Option ℕ) → ((i : ℕ) → best ≡ Some i → slot_at after i ≡ slot_at before i) → IsBelow before v best → IsBelow after v best
below_stays before after v best same a = grind arith

pub less_stays : (before after : List Slot) (old new : List ℤ) (k : ℕ)
    → length before ≡ length after → slot_at before k ≡ slot_at after k → int_at old k ≡ int_at new k → CanLess before old k → CanLess after new k
less_stays before after old new k long s x can = (omega (arith, long, can.0), subst (λ (y : ℤ). (slot_at after k).low <ℤ y) x (subst (λ (t : Slot). t.low <ℤ int_at old k) s can.1))

pub more_stays : (before after : List Slot) (old new : List ℤ) (k : ℕ)
    → length before ≡ length after → slot_at before k ≡ slot_at after k → int_at old k ≡ int_at new k → CanMore before old k → CanMore after new k
more_stays before after old new k long s x can = (omega (arith, long, can.0), subst (λ (y : ℤ). y <ℤ (slot_at after k).high) x (subst (λ (t : Slot). int_at old k <ℤ t.high) s can.1))

-- the marginal slots of a zone whose slots and amounts stay, where no slot changes its zone
pub margin_stays_among : (before after : List Slot) (old new : List ℤ) (z n : ℕ) (m : Margin) → length after ≡ length before
    → ((k : ℕ) → zone_of after k ≡ zone_of before k) → ((k : ℕ) → zone_of before k ≡ z → slot_at after k ≡ slot_at before k)
    → ((k : ℕ) → zone_of before k ≡ z → int_at new k ≡ int_at old k) → IsMarginIn before old z n m → IsMarginIn after new z n m
margin_stays_among before after old new z n m long zones slots amounts a = record {
  dearest = record {
    one = λ i e. let o = a.dearest.one i e in (less_stays before after old new i (sym long) (sym (slots i o.1)) (sym (amounts i o.1)) o.0, zones i ∙ o.1, o.2);
    all = λ k l can e.
        let here : zone_of before k ≡ z = sym (zones k) ∙ e in
        subst (λ (s : Slot). IsAbove after s.price m.dearest) (sym (slots k here))
        (above_stays before after (price_of before k) m.dearest (λ i f. slots i (a.dearest.one i f).1)
        (a.dearest.all k l (less_stays after before new old k long (slots k here) (amounts k here) can) here));
  };
  cheapest = record {
    one = λ i e. let o = a.cheapest.one i e in (more_stays before after old new i (sym long) (sym (slots i o.1)) (sym (amounts i o.1)) o.0, zones i ∙ o.1, o.2);
    all = λ k l can e.
        let here : zone_of before k ≡ z = sym (zones k) ∙ e in
        subst (λ (s : Slot). IsBelow after s.price m.cheapest) (sym (slots k here))
        (below_stays before after (price_of before k) m.cheapest (λ i f. slots i (a.cheapest.one i f).1)
        (a.cheapest.all k l (more_stays after before new old k long (slots k here) (amounts k here) can) here));
  };
}

-- the marginal slots of a zone whose slots' amounts stay
pub margin_stays : (slots : List Slot) (old new : List ℤ) (z n : ℕ) (m : Margin) → ((k : ℕ) → zone_of slots k ≡ z → int_at new k ≡ int_at old k) → IsMarginIn slots old z n m
    → IsMarginIn slots new z n m
margin_stays slots old new z n m same a = margin_stays_among slots slots old new z n m refl (λ k. refl) (λ k e. refl) same a

pub margins_at : (slots : List Slot) (xs : List ℤ) (zones n : ℕ) (margins : List Margin) (z : ℕ)
    → AreMargins slots xs zones n margins → z < zones
    → IsMarginIn slots xs z n (get_or margins z no_margin)
margins_at slots xs zones n margins z a l = record { dearest = a.dearest z l; cheapest = a.cheapest z l }

pub margins_from : (slots : List Slot) (xs : List ℤ) (zones n : ℕ) (margins : List Margin) → length margins ≡ zones
    → ((z : ℕ) → z < zones → IsMarginIn slots xs z n (get_or margins z no_margin))
    → AreMargins slots xs zones n margins
margins_from slots xs zones n margins e each = record { long = e; dearest = λ z l. (each z l).dearest; cheapest = λ z l. (each z l).cheapest }

-- after energy moved, where those of the sink's and the source's zones are right and the others stay
pub margins_after : (slots : List Slot) (old new : List ℤ) (zones n sink source : ℕ) (before after : List Margin) → IsMoved slots old new sink source
    → length after ≡ zones → IsMarginIn slots new (zone_of slots sink) n (get_or after (zone_of slots sink) no_margin)
    → IsMarginIn slots new (zone_of slots source) n (get_or after (zone_of slots source) no_margin)
    → ((z : ℕ) → (z ≡ zone_of slots sink → ⊥) → (z ≡ zone_of slots source → ⊥) → get_or after z no_margin ≡ get_or before z no_margin)
    → AreMargins slots old zones n before → AreMargins slots new zones n after
margins_after slots old new zones n sink source before after moved long to from others a = margins_from slots new zones n after long (λ z l. elim (cases_eq z (zone_of slots sink)) [
  | inl e ↦ subst (λ (k : ℕ). IsMarginIn slots new k n (get_or after k no_margin)) (sym e) to
  | inr apart ↦ elim (cases_eq z (zone_of slots source)) [
    | inl e ↦ subst (λ (k : ℕ). IsMarginIn slots new k n (get_or after k no_margin)) (sym e) from
    | inr far ↦ subst (λ (m : Margin). IsMarginIn slots new z n m) (sym (others z apart far))
        (margin_stays slots old new z n (get_or before z no_margin)
        (λ k e. moved.others k (λ s. apart (sym e ∙ ap (zone_of slots) s)) (λ s. far (sym e ∙ ap (zone_of slots) s)))
        (margins_at slots old zones n before z a l))
  ]
])

-- those of one zone more
pub margins_more : (slots : List Slot) (xs : List ℤ) (n zone : ℕ) (ms new : List Margin) (m : Margin) → new ≡ ms ++ m ∷ [] → length ms ≡ zone
    → ((z : ℕ) → z < zone → IsMarginIn slots xs z n (get_or ms z no_margin)) → IsMarginIn slots xs zone n m
    → (z : ℕ) → z < zone + 1 → IsMarginIn slots xs z n (get_or new z no_margin)
margins_more slots xs n zone ms new m e long each more z l = elim (cases_lt z zone) [
  | inl b ↦ subst (λ (t : Margin). IsMarginIn slots xs z n t)
      (sym (ap (λ (ts : List Margin). get_or ts z no_margin) e ∙ get_or_append_left ms (m ∷ []) no_margin z (omega (arith, long, b)))) (each z b)
  | inr b ↦
      let same : zone ≡ z = omega arith in
      subst (λ (t : Margin). IsMarginIn slots xs z n t) (sym (ap (λ (ts : List Margin). get_or ts z no_margin) e ∙ get_or_push ms m no_margin z (long ∙ same)))
      (subst (λ k. IsMarginIn slots xs k n m) same more)
]

-- the marginal slots of a zone's ladder with what stands in for the zone
pub dearest_in_all : (slots : List Slot) (xs : List ℤ) (z n : ℕ) (best next : Option ℕ)
    → ((i : ℕ) → next ≡ Some i → (best ≡ Some i) ⊎ (CanLess slots xs i × (zone_of slots i ≡ z)))
    → ((v : ℤ) → IsAbove slots v best → IsAbove slots v next)
    → ((k : ℕ) → n ≤ k → CanLess slots xs k → zone_of slots k ≡ z → IsAbove slots (price_of slots k) next)
    → IsDearestIn slots xs z n best → IsDearestIn slots xs z (length slots) next
dearest_in_all slots xs z n best next one keeps beside d = record {
  one = λ i e. elim (one i e) [ inl was ↦ let o = d.one i was in (o.0, o.1, o.0.0) | inr is ↦ (is.0, is.1, is.0.0) ];
  all = λ k l can e. elim (cases_lt k n) [ inl b ↦ keeps (price_of slots k) (d.all k b can e) | inr g ↦ beside k g can e ];
}

pub cheapest_in_all : (slots : List Slot) (xs : List ℤ) (z n : ℕ) (best next : Option ℕ)
    → ((i : ℕ) → next ≡ Some i → (best ≡ Some i) ⊎ (CanMore slots xs i × (zone_of slots i ≡ z)))
    → ((v : ℤ) → IsBelow slots v best → IsBelow slots v next)
    → ((k : ℕ) → n ≤ k → CanMore slots xs k → zone_of slots k ≡ z → IsBelow slots (price_of slots k) next)
    → IsCheapestIn slots xs z n best → IsCheapestIn slots xs z (length slots) next
cheapest_in_all slots xs z n best next one keeps beside c = record {
  one = λ i e. elim (one i e) [ inl was ↦ let o = c.one i was in (o.0, o.1, o.0.0) | inr is ↦ (is.0, is.1, is.0.0) ];
  all = λ k l can e. elim (cases_lt k n) [ inl b ↦ keeps (price_of slots k) (c.all k b can e) | inr g ↦ beside k g can e ];
}

above_some : (slots : List Slot) (v : ℤ) (best : Option ℕ) → IsAbove slots v best → (j : ℕ) × (best ≡ Some j) × (v ≤ℤ price_of slots j)
above_some slots v best a = grind arith

pub below_some : (slots : List Slot) (v : ℤ) (best : Option ℕ) → IsBelow slots v best → (j : ℕ) × (best ≡ Some j) × (price_of slots j ≤ℤ v)
below_some slots v best a = grind arith

-- the dearest of the zones' dearest is the dearest of all
pub dearest_is : (slots : List Slot) (xs : List ℤ) (zones : ℕ) (margins : List Margin) (marked : List Bool) (i : ℕ)
    → ((k : ℕ) → k < length slots → zone_of slots k < zones) → AreMargins slots xs zones (length slots) margins
    → IsDearestOf slots margins marked zones (Some i) → IsDearest slots xs marked i
dearest_is slots xs zones margins marked i zoned a d =
    let at = d.one i refl in
    let one = (a.dearest at.0 at.1).one i at.3 in
    record {
      less = one.0;
      unmarked = subst (λ (z : ℕ). is_marked marked z ≡ false) (sym one.1) at.2;
      top = λ k can free.
          let j = above_some slots (price_of slots k) (dearest_at margins (zone_of slots k)) ((a.dearest (zone_of slots k) (zoned k can.0)).all k can.0 can refl) in
          omega (arith, ints, j.2, d.all (zone_of slots k) j.0 (zoned k can.0) free j.1);
    }

pub dearest_none : (slots : List Slot) (xs : List ℤ) (zones : ℕ) (margins : List Margin) (marked : List Bool)
    → ((k : ℕ) → k < length slots → zone_of slots k < zones) → AreMargins slots xs zones (length slots) margins
    → IsDearestOf slots margins marked zones None → NoneLess slots xs marked
dearest_none slots xs zones margins marked zoned a d = λ k can free.
    let j = above_some slots (price_of slots k) (dearest_at margins (zone_of slots k)) ((a.dearest (zone_of slots k) (zoned k can.0)).all k can.0 can refl) in
    d.all (zone_of slots k) j.0 (zoned k can.0) free j.1

-- where there is a slot, and its price is at least this
pub above_from : (slots : List Slot) (v : ℤ) (best : Option ℕ) → (best ≡ None → ⊥) → ((j : ℕ) → best ≡ Some j → v ≤ℤ price_of slots j) → IsAbove slots v best
above_from slots v best some least = grind arith
