-- Lists with one item changed, and what holds of each item.
use Rattle.std.proofs.Common.{◌≡◌, ◌≢◌, ◌⊎◌, inl, inr, ℕ, suc, ◌<◌, List, ◌∷◌, length, map, set, get_or, Option, Some, None, arith, refl, sym, ap, subst, ◌∙◌}
use Rattle.std.specs.Prelude.{slice_get}
use Rattle.std.specs.List.{All}
use Rattle.std.proofs.lemmas.Option.{slice_get_within, slice_get-get_or, get_or_from_slice_get}
use Rattle.std.proofs.lemmas.Bool.{cases_eq}
use Rattle.mari_core.specs.Nodes.{changed}

pub length-changed : {X : Type 0} (f : X → X) (xs : List X) (k : ℕ) → length (changed f xs k) ≡ length xs
length-changed f (x ∷ xs) (suc k) = ap suc (length-changed f xs k)
length-changed f _ _ = refl

-- a write is a change
pub set_is_changed : {X : Type 0} (f : X → X) (xs : List X) (k : ℕ) (x : X) → k < length xs → set xs k (f (get_or xs k x)) ≡ changed f xs k
set_is_changed f (x ∷ xs) (suc k) d l = ap (λ ys. x ∷ ys) (set_is_changed f xs k d (omega arith))
set_is_changed f _ _ d l = grind arith

pub changed_same : {X : Type 0} (f : X → X) (xs : List X) (k : ℕ) (x : X) → slice_get xs k ≡ Some x → slice_get (changed f xs k) k ≡ Some (f x)
changed_same f (y ∷ ys) (suc k) x e = changed_same f ys k x e
changed_same f _ _ x e = grind arith

pub changed_other : {X : Type 0} (f : X → X) (xs : List X) (k j : ℕ) → j ≢ k → slice_get (changed f xs k) j ≡ slice_get xs j
changed_other f (y ∷ ys) (suc k) (suc j) n = changed_other f ys k j (λ e. n (ap suc e))
changed_other f _ _ _ n = grind arith

-- what a change leaves alone stays along the list
pub map-changed : {X Y : Type 0} (p : X → Y) (f : X → X) → ((x : X) → p (f x) ≡ p x) → (xs : List X) (k : ℕ) → map p (changed f xs k) ≡ map p xs
map-changed p f h (x ∷ xs) (suc k) = ap (λ ys. p x ∷ ys) (map-changed p f h xs k)
map-changed p f h _ _ = grind arith

pub all_get : {X : Type 0} (P : X → Type 0) (xs : List X) (k : ℕ) (x : X) → All P xs → slice_get xs k ≡ Some x → P x
all_get P xs k x a e = subst P (get_or_from_slice_get xs k x x e) (a k x (slice_get_within xs k x e))

pub all_from : {X : Type 0} (P : X → Type 0) (xs : List X) → ((k : ℕ) (x : X) → slice_get xs k ≡ Some x → P x) → All P xs
all_from P xs h k d l = h k (get_or xs k d) (slice_get-get_or xs k d l)

-- where each item had P, each item of the changed list has Q
pub all_changed : {X : Type 0} (P Q : X → Type 0) (f : X → X) (xs : List X) (k : ℕ) → All P xs
    → ((j : ℕ) (x : X) → j ≢ k → slice_get xs j ≡ Some x → P x → Q x)
    → ((x : X) → slice_get xs k ≡ Some x → P x → Q (f x)) → All Q (changed f xs k)
all_changed {X = X} P Q f xs k a other same = all_from Q (changed f xs k) each
  where
    at_k : (o : Option X) (x : X) → slice_get xs k ≡ o → slice_get (changed f xs k) k ≡ Some x → Q x
    at_k None x e h = let past : slice_get (changed f xs k) k ≡ None = none xs k e in absurd (cc)
      where
        none : (ys : List X) (j : ℕ) → slice_get ys j ≡ None → slice_get (changed f ys j) j ≡ None
        none (y ∷ ys) (suc j) e = none ys j e
        none _ _ e = grind arith
    at_k (Some y) x e h = let is : f y ≡ x = cc (changed_same f xs k y e) in subst Q is (same y e (all_get P xs k y a e))

    each : (j : ℕ) (x : X) → slice_get (changed f xs k) j ≡ Some x → Q x
    each j x h = by_place (cases_eq j k)
      where
        by_place : (j ≡ k) ⊎ (j ≢ k) → Q x
        by_place (inl e) = at_k (slice_get xs k) x refl (ap (λ i. slice_get (changed f xs k) i) (sym e) ∙ h)
        by_place (inr n) = let e : slice_get xs j ≡ Some x = sym (changed_other f xs k j n) ∙ h in other j x n e (all_get P xs j x a e)
