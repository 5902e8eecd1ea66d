-- What stands in a second list beside the items of a first one that pass a test.
use Rattle.std.proofs.Common.{◌≡◌, ℕ, suc, ◌+◌, ◌<◌, Bool, true, false, ℤ, pos, ◌+ℤ◌, List, [], ◌∷◌, length, map, cond, filter, nat_lt, refl, sym, ap, ◌∙◌, arith, add-zero}
use Rattle.std.specs.Prelude.{◌&&◌, ◌||◌, slice_index, slice_index_or}
use Rattle.std.specs.List.{All, AllZip}
use Rattle.std.proofs.lemmas.Bool.{both_ways}
use Rattle.std.proofs.lemmas.Int.{ints}
use Rattle.std.proofs.lemmas.List.{get_or_default}
use Rattle.std.proofs.lemmas.List.Elements.{All-head, All-tail}
use Rattle.mari_market.specs.declared.market.Order.{Order}
use Rattle.mari_market.specs.Activation.{is_gate, is_run_of, runs_gate}
use Rattle.mari_market.specs.Sums.{int_at, sum_along}
use Rattle.mari_islands.specs.Lists.{places_from}

-- what stands beside the items that pass
abbrev pub beside : {X Y : Type 0} → (X → Bool) → List X → List Y → List Y
beside p [] ys = []
beside p (x ∷ xs) [] = []
beside p (x ∷ xs) (y ∷ ys) = cond (p x) (y ∷ beside p xs ys) (beside p xs ys)

-- it stands at the places of these items
pub places_beside : {X Y : Type 0} (p : X → Bool) (at : ℕ → Y) (k : ℕ) (xs : List X) (ys : List Y)
    → length ys ≡ length xs → ((i : ℕ) (d : Y) → i < length ys → at (k + i) ≡ slice_index_or ys i d)
    → map at (places_from p k xs) ≡ beside p xs ys
places_beside p at k [] ys l h = refl
places_beside p at k (x ∷ xs) [] l h = absurd (omega (arith, l))
places_beside p at k (x ∷ xs) (y ∷ ys) l h =
    let here : at k ≡ y = ap at (sym (add-zero k)) ∙ h 0 y (omega arith) in
    let rest : map at (places_from p (k + 1) xs) ≡ beside p xs ys = places_beside p at (k + 1) xs ys (omega (arith, l)) (λ i d less. ap at (omega arith) ∙ h (suc i) d (omega arith)) in
    more (p x) here rest
  where
    more : (b : Bool) → at k ≡ y → map at (places_from p (k + 1) xs) ≡ beside p xs ys
        → map at (cond b (k ∷ places_from p (k + 1) xs) (places_from p (k + 1) xs)) ≡ cond b (y ∷ beside p xs ys) (beside p xs ys)
    more true here rest = rw (here, rest) refl
    more false here rest = rest

pub quantities_beside : {X : Type 0} (p : X → Bool) (xs : List X) (mw : List ℕ) → length mw ≡ length xs → map (slice_index mw) (places_from p 0 xs) ≡ beside p xs mw
quantities_beside p xs mw l = places_beside p (slice_index mw) 0 xs mw l (λ i d less. ap (slice_index mw) (omega arith) ∙ get_or_default mw i 0 d less)

pub flows_beside : {X : Type 0} (p : X → Bool) (xs : List X) (flow : List ℤ) → length flow ≡ length xs → map (int_at flow) (places_from p 0 xs) ≡ beside p xs flow
flows_beside p xs flow l = places_beside p (int_at flow) 0 xs flow l (λ i d less. ap (int_at flow) (omega arith) ∙ get_or_default flow i (pos 0) d less)

module _ {X Z Y : Type 0} (p : X → Bool) (r : X → Z) where
  -- what holds of all pairs holds of those that pass
  pub all_beside : (P : X → Y → Type 0) (Q : Z → Y → Type 0) → ((x : X) (y : Y) → p x ≡ true → P x y → Q (r x) y)
      → (xs : List X) (ys : List Y) → AllZip P xs ys → AllZip Q (map r (filter p xs)) (beside p xs ys)
  all_beside P Q h [] [] a = tt
  all_beside P Q h [] (y ∷ ys) a = absurd a
  all_beside P Q h (x ∷ xs) [] a = absurd a
  all_beside P Q h (x ∷ xs) (y ∷ ys) a = more (p x) refl (all_beside P Q h xs ys a.1)
    where
      more : (b : Bool) → p x ≡ b → AllZip Q (map r (filter p xs)) (beside p xs ys) → AllZip Q (map r (cond b (x ∷ filter p xs) (filter p xs))) (cond b (y ∷ beside p xs ys) (beside p xs ys))
      more true e rest = (h x y e a.0, rest)
      more false e rest = rest

  -- and the other way about
  pub from_beside : (Q : Z → Y → Type 0) (xs : List X) (ys : List Y) → length ys ≡ length xs → AllZip Q (map r (filter p xs)) (beside p xs ys) → AllZip (λ x y. p x ≡ true → Q (r x) y) xs ys
  from_beside Q [] [] l a = tt
  from_beside Q [] (y ∷ ys) l a = absurd (omega (arith, l))
  from_beside Q (x ∷ xs) [] l a = absurd (omega (arith, l))
  from_beside Q (x ∷ xs) (y ∷ ys) l a = more (p x) refl a (λ b. from_beside Q xs ys (omega (arith, l)) b)
    where
      more : (b : Bool) → p x ≡ b
          → AllZip Q (map r (cond b (x ∷ filter p xs) (filter p xs))) (cond b (y ∷ beside p xs ys) (beside p xs ys))
          → (AllZip Q (map r (filter p xs)) (beside p xs ys) → AllZip (λ u v. p u ≡ true → Q (r u) v) xs ys)
          → (p x ≡ true → Q (r x) y) × AllZip (λ u v. p u ≡ true → Q (r u) v) xs ys
      more true e c rest = (λ t. c.0, rest c.1)
      more false e c rest = (λ t. absurd (both_ways (p x) e t), rest c)

  -- a sum over those that pass is the sum over all, where the others add nothing
  pub sum_beside : (f : X → Y → ℤ) (g : Z → Y → ℤ) (P : X → Y → Type 0)
      → ((x : X) (y : Y) → P x y → p x ≡ true → g (r x) y ≡ f x y)
      → ((x : X) (y : Y) → P x y → p x ≡ false → f x y ≡ pos 0) → (xs : List X) (ys : List Y) → AllZip P xs ys
      → sum_along g (map r (filter p xs)) (beside p xs ys) ≡ sum_along f xs ys
  sum_beside f g P h k [] [] a = refl
  sum_beside f g P h k [] (y ∷ ys) a = absurd a
  sum_beside f g P h k (x ∷ xs) [] a = absurd a
  sum_beside f g P h k (x ∷ xs) (y ∷ ys) a = more (p x) refl (sum_beside f g P h k xs ys a.1)
    where
      more : (b : Bool) → p x ≡ b → sum_along g (map r (filter p xs)) (beside p xs ys) ≡ sum_along f xs ys
          → sum_along g (map r (cond b (x ∷ filter p xs) (filter p xs))) (cond b (y ∷ beside p xs ys) (beside p xs ys)) ≡ f x y +ℤ sum_along f xs ys
      more true e rest = omega (arith, ints, h x y a.0 e, rest)
      more false e rest = omega (arith, ints, k x y a.0 e, rest)

-- a gate of the whole and its number among those that pass
pub record AreAlike (p : Order → Bool) (r : Order → Order) (g j : ℕ) (o : Order) : Type 0 where
  pub passing : p o ≡ true → is_gate j (r o).gate ≡ is_gate g o.gate
  pub other : p o ≡ false → is_gate g o.gate ≡ false

-- an order of the gate runs where one of those that pass does
pub runs_beside : (p : Order → Bool) (r : Order → Order) (g j : ℕ) (os : List Order) (qs : List ℕ)
    → length qs ≡ length os → All (AreAlike p r g j) os
    → runs_gate j (map r (filter p os)) (beside p os qs) ≡ runs_gate g os qs
runs_beside p r g j [] qs l a = refl
runs_beside p r g j (o ∷ os) [] l a = absurd (omega (arith, l))
runs_beside p r g j (o ∷ os) (q ∷ qs) l a = more (p o) refl (All-head (AreAlike p r g j) o os a) (runs_beside p r g j os qs (omega (arith, l)) (All-tail (AreAlike p r g j) o os a))
  where
    more : (b : Bool) → p o ≡ b → AreAlike p r g j o
        → runs_gate j (map r (filter p os)) (beside p os qs) ≡ runs_gate g os qs
        → runs_gate j (map r (cond b (o ∷ filter p os) (filter p os))) (cond b (q ∷ beside p os qs) (beside p os qs)) ≡ (is_run_of g o q || runs_gate g os qs)
    more true e alike rest = ap (λ (b : Bool). (b && nat_lt 0 q) || runs_gate j (map r (filter p os)) (beside p os qs)) (alike.passing e) ∙ ap (λ (b : Bool). is_run_of g o q || b) rest
    more false e alike rest = rest ∙ sym (ap (λ (b : Bool). (b && nat_lt 0 q) || runs_gate g os qs) (alike.other e))

-- what holds of each item of the first list holds of each pair
pub side_all : {X Y : Type 0} (P : X → Type 0) (xs : List X) (ys : List Y) → length ys ≡ length xs → All P xs → AllZip (λ x y. P x) xs ys
side_all P [] [] l a = tt
side_all P [] (y ∷ ys) l a = absurd (omega (arith, l))
side_all P (x ∷ xs) [] l a = absurd (omega (arith, l))
side_all P (x ∷ xs) (y ∷ ys) l a = (All-head P x xs a, side_all P xs ys (omega (arith, l)) (All-tail P x xs a))
