-- The places of the items of a list that pass a test.
use Rattle.std.proofs.Common.{◌≡◌, ℕ, suc, ◌+◌, ◌<◌, ◌≤◌, Bool, true, false, List, [], ◌∷◌, length, map, cond, refl, ap, ◌∙◌, arith, filter, slice_index_or, sym, add-zero}
use Rattle.std.specs.List.{All, AllPairs, count_by, range_with_len}
use Rattle.std.proofs.lemmas.List.Elements.{All-nil, All-cons, All-weaker}
use Rattle.std.proofs.lemmas.List.Kept.{AllPairs-cons}
use Rattle.std.proofs.lemmas.List.Sums.{length-filter}
use Rattle.mari_remain.specs.Lists.{places_from}

-- a place of a list that is counted from k
pub record IsPlace (k n i : ℕ) : Type 0 where
  pub from : k ≤ i
  pub below : i < k + n

module _ {X : Type 0} (p : X → Bool) where
  either : (b : Bool) (x : X) (k : ℕ) (is : List ℕ) (n : ℕ) → All (IsPlace (k + 1) n) is → All (IsPlace k (suc n)) (cond b (k ∷ is) is)
  either b x k is n h =
      let more : All (IsPlace k (suc n)) is = All-weaker (IsPlace (k + 1) n) (IsPlace k (suc n)) (λ i l. record { from = omega (arith, l.from); below = omega (arith, l.below) }) is h in
      elim b as (λ v. All (IsPlace k (suc n)) (cond v (k ∷ is) is)) [
        | true ↦ All-cons (IsPlace k (suc n)) k is (record { from = omega arith; below = omega arith }) more
        | false ↦ more
      ]

  -- each place is one of the list's
  pub places-within : (k : ℕ) (xs : List X) → All (IsPlace k (length xs)) (places_from p k xs)
  places-within k [] = All-nil _
  places-within k (x ∷ xs) = either (p x) x k (places_from p (k + 1) xs) (length xs) (places-within (k + 1) xs)

  above : (b : Bool) (k n : ℕ) (is : List ℕ) → All (IsPlace (k + 1) n) is → AllPairs (λ i j. i < j) is → AllPairs (λ i j. i < j) (cond b (k ∷ is) is)
  above b k n is h rise =
      elim b as (λ v. AllPairs (λ (i j : ℕ). i < j) (cond v (k ∷ is) is)) [
        | true ↦ AllPairs-cons (λ i j. i < j) k is (All-weaker (IsPlace (k + 1) n) (λ j. k < j) (λ i l. omega (arith, l.from)) is h) rise
        | false ↦ rise
      ]

  -- places rise
  pub places-rise : (k : ℕ) (xs : List X) → AllPairs (λ i j. i < j) (places_from p k xs)
  places-rise k [] = λ i j d l m. absurd (omega arith)
  places-rise k (x ∷ xs) = above (p x) k (length xs) (places_from p (k + 1) xs) (places-within (k + 1) xs) (places-rise (k + 1) xs)

  same : (b : Bool) (x : X) (k : ℕ) (is : List ℕ) (xs : List X) → length is ≡ length xs → length (cond b (k ∷ is) is) ≡ length (cond b (x ∷ xs) xs)
  same true x k is xs e = ap suc e
  same false x k is xs e = e

  length-kept : (k : ℕ) (xs : List X) → length (places_from p k xs) ≡ length (filter p xs)
  length-kept k [] = refl
  length-kept k (x ∷ xs) = same (p x) x k (places_from p (k + 1) xs) (filter p xs) (length-kept (k + 1) xs)

  -- there are as many places as items that pass
  pub length-places : (k : ℕ) (xs : List X) → length (places_from p k xs) ≡ count_by p xs
  length-places k xs = length-kept k xs ∙ length-filter p xs

-- the places of the items that pass are those numbers at which the list has an item that passes
pub places-filter : {X : Type 0} (p : X → Bool) (q : ℕ → Bool) (k : ℕ) (xs : List X)
    → ((i : ℕ) (d : X) → i < length xs → q (k + i) ≡ p (slice_index_or xs i d))
    → places_from p k xs ≡ filter q (range_with_len k (length xs))
places-filter p q k [] h = refl
places-filter p q k (x ∷ xs) h =
    let here : q k ≡ p x = ap q (sym (add-zero k)) ∙ h 0 x (omega arith) in
    let rest : places_from p (k + 1) xs ≡ filter q (range_with_len (k + 1) (length xs)) = places-filter p q (k + 1) xs (λ i d l. ap q (omega arith) ∙ h (suc i) d (omega arith)) in
    rw (here, rest) refl

-- the items at the places of those that pass are those that pass
pub places-items : {X : Type 0} (p : X → Bool) (at : ℕ → X) (k : ℕ) (xs : List X) → ((i : ℕ) (d : X) → i < length xs → at (k + i) ≡ slice_index_or xs i d) → map at (places_from p k xs) ≡ filter p xs
places-items p at k [] h = refl
places-items p at k (x ∷ xs) h =
    let here : at k ≡ x = ap at (sym (add-zero k)) ∙ h 0 x (omega arith) in
    let rest : map at (places_from p (k + 1) xs) ≡ filter p xs = places-items p at (k + 1) xs (λ i d l. ap at (omega arith) ∙ h (suc i) d (omega arith)) in
    more (p x) here rest
  where
    more : (b : Bool) → at k ≡ x → map at (places_from p (k + 1) xs) ≡ filter p xs → map at (cond b (k ∷ places_from p (k + 1) xs) (places_from p (k + 1) xs)) ≡ cond b (x ∷ filter p xs) (filter p xs)
    more true here rest = rw (here, rest) refl
    more false here rest = rest
