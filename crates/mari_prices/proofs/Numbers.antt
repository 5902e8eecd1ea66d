-- One more zone numbered.
use Rattle.std.proofs.Common.{◌≡◌, ◌⊎◌, ℕ, ◌+◌, ◌<◌, ◌≤◌, List, [], ◌∷◌, ◌++◌, length, get_or, zero, suc, arith, refl, sym, ap, ◌∙◌, subst, inl, inr}
use Rattle.std.proofs.lemmas.Bool.{cases_lt}
use Rattle.std.proofs.lemmas.List.{get_or_default, length_push}
use Rattle.mari_market.specs.Area.{area_at}
use Rattle.mari_prices.specs.Firsts.{IsNumbering}

-- the numbers after one more zone
record Adds (a b : ℕ → ℕ) (n v : ℕ) : Type 0 where
  old : (z : ℕ) → z < n → b z ≡ a z
  new : b n ≡ v

at_last : (n z : ℕ) → z < n + 1 → (z < n) ⊎ (z ≡ n)
at_last n z h = elim (cases_lt z n) [ inl l ↦ inl l | inr l ↦ inr (omega arith) ]

-- a first zone gets the next number
new_area : (f a b : ℕ → ℕ) (n count : ℕ) → IsNumbering f a n count → ((z : ℕ) → z < n → f z ≤ z) → f n ≡ n → Adds a b n (count + 1) → IsNumbering f b (n + 1) (count + 1)
new_area f a b n count h back first k = record {
  few = omega (arith, h.few);
  from_one = λ z l. elim (at_last n z l) [ inl i ↦ omega (arith, k.old z i, h.from_one z i) | inr e ↦ omega (arith, k.new, ap b e) ];
  to_count = λ z l. elim (at_last n z l) [ inl i ↦ omega (arith, k.old z i, h.to_count z i) | inr e ↦ omega (arith, k.new, ap b e) ];
  as_first = λ z l. elim (at_last n z l) [
    | inl i ↦ k.old z i ∙ h.as_first z i ∙ sym (k.old (f z) (omega (arith, back z i)))
    | inr e ↦ ap b (e ∙ sym first ∙ ap f (sym e))
  ];
  apart = λ y z l m p q same. elim (at_last n y l) [
    | inl i ↦ elim (at_last n z m) [
      | inl j ↦ h.apart y z i j p q (sym (k.old y i) ∙ same ∙ k.old z j)
      | inr e ↦ absurd (omega (arith, k.old y i, h.to_count y i, k.new, ap b e, same))
    ]
    | inr d ↦ elim (at_last n z m) [
      | inl j ↦ absurd (omega (arith, k.old z j, h.to_count z j, k.new, ap b d, same))
      | inr e ↦ d ∙ sym e
    ]
  ];
  each = λ c l m. elim (cases_lt count c) [
    | inl i ↦ (n, omega arith, omega (arith, k.new))
    | inr i ↦ let y = h.each c l i in (y.0, omega (arith, y.1), k.old y.0 y.1 ∙ y.2)
  ];
  in_order = λ z c l m o. elim (at_last n z l) [
    | inl i ↦ let y = h.in_order z c i m (omega (arith, k.old z i, o)) in (y.0, y.1, k.old y.0 (omega (arith, y.1)) ∙ y.2)
    | inr e ↦ elim (cases_lt count c) [
      | inl i ↦ (n, omega (arith, e), omega (arith, k.new, ap b e, o, i))
      | inr i ↦ let y = h.each c m i in (y.0, omega (arith, y.1, e), k.old y.0 y.1 ∙ y.2)
    ]
  ];
}

-- another zone gets the number of its first zone
old_area : (f a b : ℕ → ℕ) (n count : ℕ) → IsNumbering f a n count → ((z : ℕ) → z < n → f z ≤ z) → f n < n → Adds a b n (a (f n)) → IsNumbering f b (n + 1) count
old_area f a b n count h back before k = record {
  few = omega (arith, h.few);
  from_one = λ z l. elim (at_last n z l) [ inl i ↦ omega (arith, k.old z i, h.from_one z i) | inr e ↦ omega (arith, k.new, ap b e, h.from_one (f n) before) ];
  to_count = λ z l. elim (at_last n z l) [ inl i ↦ omega (arith, k.old z i, h.to_count z i) | inr e ↦ omega (arith, k.new, ap b e, h.to_count (f n) before) ];
  as_first = λ z l. elim (at_last n z l) [
    | inl i ↦ k.old z i ∙ h.as_first z i ∙ sym (k.old (f z) (omega (arith, back z i)))
    | inr e ↦ ap b e ∙ k.new ∙ sym (k.old (f n) before) ∙ ap (λ x. b (f x)) (sym e)
  ];
  apart = λ y z l m p q same. elim (at_last n y l) [
    | inl i ↦ elim (at_last n z m) [
      | inl j ↦ h.apart y z i j p q (sym (k.old y i) ∙ same ∙ k.old z j)
      | inr e ↦ absurd (omega (arith, q, e, ap f e, before))
    ]
    | inr d ↦ absurd (omega (arith, p, d, ap f d, before))
  ];
  each = λ c l m. let y = h.each c l m in (y.0, omega (arith, y.1), k.old y.0 y.1 ∙ y.2);
  in_order = λ z c l m o. elim (at_last n z l) [
    | inl i ↦ let y = h.in_order z c i m (omega (arith, k.old z i, o)) in (y.0, y.1, k.old y.0 (omega (arith, y.1)) ∙ y.2)
    | inr e ↦ let y = h.in_order (f n) c before m (omega (arith, k.new, ap b e, o)) in (y.0, omega (arith, y.1, before, e), k.old y.0 (omega (arith, y.1, before)) ∙ y.2)
  ];
}

pushed_old : (xs : List ℕ) (v z : ℕ) → z < length xs → area_at (xs ++ v ∷ []) z ≡ area_at xs z
pushed_old [] v z h = absurd (omega arith)
pushed_old (x ∷ xs) v zero h = refl
pushed_old (x ∷ xs) v (suc z) h = pushed_old xs v z (omega arith)

pushed_new : (xs : List ℕ) (v n : ℕ) → length xs ≡ n → area_at (xs ++ v ∷ []) n ≡ v
pushed_new [] v zero e = refl
pushed_new [] v (suc n) e = absurd (omega (arith, e))
pushed_new (x ∷ xs) v zero e = absurd (omega (arith, e))
pushed_new (x ∷ xs) v (suc n) e = pushed_new xs v n (omega (arith, e))

pushed : (xs : List ℕ) (v n : ℕ) → length xs ≡ n → Adds (area_at xs) (area_at (xs ++ v ∷ [])) n v
pushed xs v n e = record { old = λ z h. pushed_old xs v z (omega (arith, e)); new = pushed_new xs v n e }

pub push_new_area : (f : ℕ → ℕ) (xs ys : List ℕ) (n count count' : ℕ) → length xs ≡ n → ys ≡ xs ++ (count + 1) ∷ []
    → count' ≡ count + 1 → IsNumbering f (area_at xs) n count → ((z : ℕ) → z < n → f z ≤ z) → f n ≡ n
    → (length ys ≡ n + 1) × IsNumbering f (area_at ys) (n + 1) count'
push_new_area f xs ys n count count' e made more h back first = (
  ap length made ∙ omega (arith, length_push xs (count + 1), e),
  subst (λ (zs : List ℕ). IsNumbering f (area_at zs) (n + 1) count') (sym made)
      (subst (IsNumbering f (area_at (xs ++ (count + 1) ∷ [])) (n + 1)) (sym more) (new_area f (area_at xs) (area_at (xs ++ (count + 1) ∷ [])) n count h back first (pushed xs (count + 1) n e))),
)

pub push_old_area : (f : ℕ → ℕ) (xs ys : List ℕ) (n count count' v first : ℕ) → length xs ≡ n → ys ≡ xs ++ v ∷ []
    → count' ≡ count → IsNumbering f (area_at xs) n count → ((z : ℕ) → z < n → f z ≤ z) → first ≡ f n
    → v ≡ get_or xs first v → f n < n → (length ys ≡ n + 1) × IsNumbering f (area_at ys) (n + 1) count'
push_old_area f xs ys n count count' v first e made same h back at read before =
    let own : v ≡ area_at xs (f n) = read ∙ get_or_default xs first v 0 (omega (arith, e, at, before)) ∙ ap (area_at xs) at in
    let adds : Adds (area_at xs) (area_at (xs ++ v ∷ [])) n (area_at xs (f n)) = subst (Adds (area_at xs) (area_at (xs ++ v ∷ [])) n) own (pushed xs v n e) in (
      ap length made ∙ omega (arith, length_push xs v, e),
      subst (λ (zs : List ℕ). IsNumbering f (area_at zs) (n + 1) count') (sym made)
          (subst (IsNumbering f (area_at (xs ++ v ∷ [])) (n + 1)) (sym same) (old_area f (area_at xs) (area_at (xs ++ v ∷ [])) n count h back before adds)),
    )
