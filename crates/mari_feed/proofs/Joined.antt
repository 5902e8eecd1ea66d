-- The text of a list, item by item.
use Rattle.std.proofs.Common.{◌≡◌, ◌∙◌, ◌≤◌, ◌<◌, ◌+◌, ℕ, Bool, true, false, List, [], ◌∷◌, ◌++◌, map, length, take, get_or, Result, refl, sym, ap, arith, append_assoc, append-nil}
use Rattle.std.specs.Prelude.{nat_lt}
use Rattle.std.specs.Result.{OnOk}
use Rattle.std.proofs.lemmas.Bool.Decides.{nat_tests}
use Rattle.std.proofs.lemmas.List.{take_more, take_all, map-append, length-map, length-take-le}
use Rattle.serde_json.specs.Data.{Data}
use Rattle.serde_json.specs.View.{items_of}
use Rattle.serde_json.specs.Written.{compact_text, items_text}

-- the texts of items, each after a comma; and those of items of which the first isn't
abbrev pub after_commas : List Data → List ℕ
after_commas [] = []
after_commas (d ∷ ds) = 44 ∷ (compact_text d ++ after_commas ds)

abbrev pub joined : List Data → List ℕ
joined [] = []
joined (d ∷ ds) = compact_text d ++ after_commas ds

items_after : (ds : List Data) → items_text true (items_of ds) ≡ after_commas ds ++ 93 ∷ []
items_after [] = refl
items_after (d ∷ ds) = ap (λ (t : List ℕ). 44 ∷ (compact_text d ++ t)) (items_after ds) ∙ ap (λ (t : List ℕ). 44 ∷ t) (sym (append_assoc (compact_text d) (after_commas ds) (93 ∷ [])))

pub items_joined : (ds : List Data) → items_text false (items_of ds) ≡ joined ds ++ 93 ∷ []
items_joined [] = refl
items_joined (d ∷ ds) = ap (λ (t : List ℕ). compact_text d ++ t) (items_after ds) ∙ sym (append_assoc (compact_text d) (after_commas ds) (93 ∷ []))

after_push : (ds : List Data) (d : Data) → after_commas (ds ++ d ∷ []) ≡ after_commas ds ++ 44 ∷ compact_text d
after_push [] d = ap (λ (t : List ℕ). 44 ∷ t) (append-nil (compact_text d))
after_push (e ∷ ds) d = ap (λ (t : List ℕ). 44 ∷ (compact_text e ++ t)) (after_push ds d) ∙ ap (λ (t : List ℕ). 44 ∷ t) (sym (append_assoc (compact_text e) (after_commas ds) (44 ∷ compact_text d)))

-- one more item after none, and after some
pub joined_first : (ds : List Data) (d : Data) → ds ≡ [] → joined (ds ++ d ∷ []) ≡ joined ds ++ compact_text d
joined_first ds d e = grind (arith, append-nil)

pub joined_more : (ds : List Data) (d : Data) → (ds ≡ [] → ⊥) → joined (ds ++ d ∷ []) ≡ joined ds ++ 44 ∷ compact_text d
joined_more ds d some = grind (arith, after_push, append_assoc)

-- ---- the loop over a list

module _ {X : Type 0} (f : X → Data) (xs : List X) (i : ℕ) (x : X) (lt : i < length xs) (at : x ≡ get_or xs i x) where
  next : map f (take (i + 1) xs) ≡ map f (take i xs) ++ f x ∷ []
  next = ap (map f) (take_more xs i x lt) ∙ map-append f (take i xs) (get_or xs i x ∷ []) ∙ ap (λ (y : X). map f (take i xs) ++ f y ∷ []) (sym at)

  module _ (old before : List ℕ) (begun : before ≡ old ++ 91 ∷ joined (map f (take i xs))) where
    pub first_item : (later : Bool) → later ≡ nat_lt 0 i → later ≡ false → (after : List ℕ) → after ≡ before ++ compact_text (f x) → after ≡ old ++ 91 ∷ joined (map f (take (i + 1) xs))
    first_item later is none after e = grind (arith, nat_tests, append_assoc, joined_first, next)

    pub more_item : (later : Bool) → later ≡ nat_lt 0 i → later ≡ true → (between after : List ℕ)
        → between ≡ before ++ 44 ∷ [] → after ≡ between ++ compact_text (f x)
        → after ≡ old ++ 91 ∷ joined (map f (take (i + 1) xs))
    more_item later is some between after c e = grind (arith, nat_tests, length-map, length-take-le, append_assoc, joined_more, next)

pub all_items : {X R E : Type 0} (r : Result R E) (f : X → Data) (xs : List X) (i : ℕ) (old before after : List ℕ)
    → length xs ≤ i → before ≡ old ++ 91 ∷ joined (map f (take i xs)) → OnOk r (after ≡ before ++ 93 ∷ [])
    → OnOk r (after ≡ old ++ 91 ∷ items_text false (items_of (map f xs)))
all_items r f xs i old before after le begun e = grind (arith, append_assoc, take_all, items_joined)
