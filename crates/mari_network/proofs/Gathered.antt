-- The marginal slots among some slots: with one slot more, with other slots changed, and among all.
use Rattle.std.proofs.Common.{◌≡◌, ◌≢◌, ◌⊎◌, ℕ, ◌<◌, ℤ, List, length, get_or, sym, ap, subst, ◌∙◌, refl, inl, inr, Option, Some}
use Rattle.std.proofs.lemmas.Bool.{cases_eq}
use Rattle.mari_network.specs.declared.slots.Slot.{Slot}
use Rattle.mari_network.specs.declared.margins.Margin.{Margin}
use Rattle.mari_market.specs.Sums.{int_at}
use Rattle.mari_network.specs.Slots.{slot_at, zone_of, price_of, CanLess, CanMore}
use Rattle.mari_network.specs.Margins.{no_margin, dearest_at, cheapest_at, IsAbove, IsBelow, IsDearestOfThese, IsCheapestOfThese, AreMarginsOfThese, IsDearestWith, IsCheapestWith, IsMarginWith, AreMargins}
use Rattle.mari_network.proofs.Marginal.{some_same, above_stays, below_stays, less_stays, more_stays}

-- ---- one slot more

pub dearest_kept : (slots : List Slot) (xs : List ℤ) (i : ℕ) (best : Option ℕ) → (CanLess slots xs i → ⊥) → IsDearestWith slots xs best i best
dearest_kept slots xs i best cannot = record { one = λ k e. inl e; above = λ can. absurd (cannot can); keeps = λ v a. a }

pub dearest_taken : (slots : List Slot) (xs : List ℤ) (i : ℕ) (best next : Option ℕ) → CanLess slots xs i → ((next ≡ best) ⊎ (next ≡ Some i))
    → IsAbove slots (price_of slots i) next → ((v : ℤ) → IsAbove slots v best → IsAbove slots v next)
    → IsDearestWith slots xs best i next
dearest_taken slots xs i best next can which above keeps = record {
  one = λ k e. elim which [
    | inl same ↦ inl (sym same ∙ e)
    | inr here ↦ let is : i ≡ k = some_same i k (sym here ∙ e) in inr (subst (λ (j : ℕ). CanLess slots xs j) is can, is)
  ];
  above = λ h. above;
  keeps = keeps;
}

pub cheapest_kept : (slots : List Slot) (xs : List ℤ) (i : ℕ) (best : Option ℕ) → (CanMore slots xs i → ⊥) → IsCheapestWith slots xs best i best
cheapest_kept slots xs i best cannot = record { one = λ k e. inl e; below = λ can. absurd (cannot can); keeps = λ v a. a }

pub cheapest_taken : (slots : List Slot) (xs : List ℤ) (i : ℕ) (best next : Option ℕ) → CanMore slots xs i → ((next ≡ best) ⊎ (next ≡ Some i))
    → IsBelow slots (price_of slots i) next → ((v : ℤ) → IsBelow slots v best → IsBelow slots v next)
    → IsCheapestWith slots xs best i next
cheapest_taken slots xs i best next can which below keeps = record {
  one = λ k e. elim which [
    | inl same ↦ inl (sym same ∙ e)
    | inr here ↦ let is : i ≡ k = some_same i k (sym here ∙ e) in inr (subst (λ (j : ℕ). CanMore slots xs j) is can, is)
  ];
  below = λ h. below;
  keeps = keeps;
}

module _ (These More : ℕ → Type 0) (slots : List Slot) (xs : List ℤ) (p : ℕ) (which : (k : ℕ) → More k → These k ⊎ (k ≡ p)) (these : (k : ℕ) → These k → More k) (one : More p) where
  dearest_here : (z : ℕ) (before after : Option ℕ) → zone_of slots p ≡ z → IsDearestWith slots xs before p after → IsDearestOfThese These slots xs z before → IsDearestOfThese More slots xs z after
  dearest_here z before after here w d = record {
    one = λ i e. elim (w.one i e) [
      | inl old ↦ let o = d.one i old in (o.0, o.1, these i o.2)
      | inr new ↦ (new.0, subst (λ (k : ℕ). zone_of slots k ≡ z) new.1 here, subst (λ (k : ℕ). More k) new.1 one)
    ];
    all = λ k is can e. elim (which k is) [
      | inl old ↦ w.keeps (price_of slots k) (d.all k old can e)
      | inr new ↦ subst (λ (j : ℕ). IsAbove slots (price_of slots j) after) (sym new) (w.above (subst (λ (j : ℕ). CanLess slots xs j) new can))
    ];
  }

  dearest_elsewhere : (z : ℕ) (best : Option ℕ) → z ≢ zone_of slots p → IsDearestOfThese These slots xs z best → IsDearestOfThese More slots xs z best
  dearest_elsewhere z best away d = record {
    one = λ i e. let o = d.one i e in (o.0, o.1, these i o.2);
    all = λ k is can e. elim (which k is) [
      | inl old ↦ d.all k old can e
      | inr new ↦ absurd (away (sym e ∙ ap (zone_of slots) new))
    ];
  }

  cheapest_here : (z : ℕ) (before after : Option ℕ) → zone_of slots p ≡ z → IsCheapestWith slots xs before p after → IsCheapestOfThese These slots xs z before → IsCheapestOfThese More slots xs z after
  cheapest_here z before after here w c = record {
    one = λ i e. elim (w.one i e) [
      | inl old ↦ let o = c.one i old in (o.0, o.1, these i o.2)
      | inr new ↦ (new.0, subst (λ (k : ℕ). zone_of slots k ≡ z) new.1 here, subst (λ (k : ℕ). More k) new.1 one)
    ];
    all = λ k is can e. elim (which k is) [
      | inl old ↦ w.keeps (price_of slots k) (c.all k old can e)
      | inr new ↦ subst (λ (j : ℕ). IsBelow slots (price_of slots j) after) (sym new) (w.below (subst (λ (j : ℕ). CanMore slots xs j) new can))
    ];
  }

  cheapest_elsewhere : (z : ℕ) (best : Option ℕ) → z ≢ zone_of slots p → IsCheapestOfThese These slots xs z best → IsCheapestOfThese More slots xs z best
  cheapest_elsewhere z best away c = record {
    one = λ i e. let o = c.one i e in (o.0, o.1, these i o.2);
    all = λ k is can e. elim (which k is) [
      | inl old ↦ c.all k old can e
      | inr new ↦ absurd (away (sym e ∙ ap (zone_of slots) new))
    ];
  }

  -- one slot was added to the margin of its zone
  pub margins_with : (zones : ℕ) (old new : List Margin) → length new ≡ length old
      → IsMarginWith slots xs (get_or old (zone_of slots p) no_margin) p (get_or new (zone_of slots p) no_margin)
      → ((z : ℕ) → z ≢ zone_of slots p → get_or new z no_margin ≡ get_or old z no_margin)
      → AreMarginsOfThese These slots xs zones old → AreMarginsOfThese More slots xs zones new
  margins_with zones old new long here others a = record {
    long = long ∙ a.long;
    dearest = λ z l. elim (cases_eq z (zone_of slots p)) [
      | inl e ↦ subst (λ (y : ℕ). IsDearestOfThese More slots xs y (dearest_at new y)) (sym e)
          (dearest_here (zone_of slots p) (dearest_at old (zone_of slots p)) (dearest_at new (zone_of slots p)) refl here.dearest (a.dearest (zone_of slots p) (subst (λ (y : ℕ). y < zones) e l)))
      | inr other ↦ subst (λ (m : Margin). IsDearestOfThese More slots xs z m.dearest) (sym (others z other)) (dearest_elsewhere z (dearest_at old z) other (a.dearest z l))
    ];
    cheapest = λ z l. elim (cases_eq z (zone_of slots p)) [
      | inl e ↦ subst (λ (y : ℕ). IsCheapestOfThese More slots xs y (cheapest_at new y)) (sym e)
          (cheapest_here (zone_of slots p) (cheapest_at old (zone_of slots p)) (cheapest_at new (zone_of slots p)) refl here.cheapest (a.cheapest (zone_of slots p) (subst (λ (y : ℕ). y < zones) e l)))
      | inr other ↦ subst (λ (m : Margin). IsCheapestOfThese More slots xs z m.cheapest) (sym (others z other)) (cheapest_elsewhere z (cheapest_at old z) other (a.cheapest z l))
    ];
  }

-- ---- the same slots

-- among slots that are the same
pub margins_same : (These Those : ℕ → Type 0) (slots : List Slot) (xs : List ℤ) (zones : ℕ) (margins : List Margin) → ((k : ℕ) → These k → Those k) → ((k : ℕ) → Those k → These k)
    → AreMarginsOfThese These slots xs zones margins → AreMarginsOfThese Those slots xs zones margins
margins_same These Those slots xs zones margins to from a = record {
  long = a.long;
  dearest = λ z l. record { one = λ i e. let o = (a.dearest z l).one i e in (o.0, o.1, to i o.2); all = λ k is can e. (a.dearest z l).all k (from k is) can e };
  cheapest = λ z l. record { one = λ i e. let o = (a.cheapest z l).one i e in (o.0, o.1, to i o.2); all = λ k is can e. (a.cheapest z l).all k (from k is) can e };
}

-- among slots that stay with their amounts, where no slot changes its zone
pub these_stay : (These : ℕ → Type 0) (before after : List Slot) (old new : List ℤ) (zones : ℕ) (margins : List Margin) → length after ≡ length before
    → ((k : ℕ) → zone_of after k ≡ zone_of before k) → ((k : ℕ) → These k → slot_at after k ≡ slot_at before k) → ((k : ℕ) → These k → int_at new k ≡ int_at old k)
    → AreMarginsOfThese These before old zones margins → AreMarginsOfThese These after new zones margins
these_stay These before after old new zones margins long same slots amounts a = record {
  long = a.long;
  dearest = λ z l. record {
    one = λ i e. let o = (a.dearest z l).one i e in (less_stays before after old new i (sym long) (sym (slots i o.2)) (sym (amounts i o.2)) o.0, same i ∙ o.1, o.2);
    all = λ k is can e. subst (λ (s : Slot). IsAbove after s.price (dearest_at margins z)) (sym (slots k is))
        (above_stays before after (price_of before k) (dearest_at margins z) (λ i f. slots i ((a.dearest z l).one i f).2)
        ((a.dearest z l).all k is (less_stays after before new old k long (slots k is) (amounts k is) can) (sym (same k) ∙ e)));
  };
  cheapest = λ z l. record {
    one = λ i e. let o = (a.cheapest z l).one i e in (more_stays before after old new i (sym long) (sym (slots i o.2)) (sym (amounts i o.2)) o.0, same i ∙ o.1, o.2);
    all = λ k is can e. subst (λ (s : Slot). IsBelow after s.price (cheapest_at margins z)) (sym (slots k is))
        (below_stays before after (price_of before k) (cheapest_at margins z) (λ i f. slots i ((a.cheapest z l).one i f).2)
        ((a.cheapest z l).all k is (more_stays after before new old k long (slots k is) (amounts k is) can) (sym (same k) ∙ e)));
  };
}

-- where these are the first n
pub margins_of_first : (These : ℕ → Type 0) (slots : List Slot) (xs : List ℤ) (zones n : ℕ) (margins : List Margin) → ((k : ℕ) → k < n → These k) → ((k : ℕ) → These k → k < n)
    → AreMarginsOfThese These slots xs zones margins → AreMargins slots xs zones n margins
margins_of_first These slots xs zones n margins all first a = record {
  long = a.long;
  dearest = λ z l. record { one = λ i e. let o = (a.dearest z l).one i e in (o.0, o.1, first i o.2); all = λ k h can e. (a.dearest z l).all k (all k h) can e };
  cheapest = λ z l. record { one = λ i e. let o = (a.cheapest z l).one i e in (o.0, o.1, first i o.2); all = λ k h can e. (a.cheapest z l).all k (all k h) can e };
}
