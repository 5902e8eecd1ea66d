-- How many items there are where few have the same number.
use Rattle.std.proofs.Common.{◌≡◌, ℕ, zero, suc, ◌*◌, ◌<◌, ◌≤◌, ◌==◌, Bool, true, false, List, [], ◌∷◌, length, filter, cond, refl, arith}
use Rattle.std.specs.Prelude.{not, count_by}
use Rattle.std.specs.List.{All}
use Rattle.std.proofs.lemmas.Bool.Decides.{nat_tests}
use Rattle.std.proofs.lemmas.List.Elements.{All-filter, filter_passes}
use Rattle.std.proofs.lemmas.List.Filters.{length-filter_both}
use Rattle.std.proofs.lemmas.List.Sums.{length-filter}

module _ {X : Type 0} where
  -- a filter of a list leaves no more that pass a test
  fewer : (b : Bool) (x : X) (xs ys : List X) → length xs ≤ length ys → length (cond b (x ∷ xs) xs) ≤ length (cond b (x ∷ ys) ys)
  fewer true x xs ys l = omega (arith, l)
  fewer false x xs ys l = l

  skipped : (b : Bool) (x : X) (xs ys : List X) → length xs ≤ length ys → length xs ≤ length (cond b (x ∷ ys) ys)
  skipped true x xs ys l = omega (arith, l)
  skipped false x xs ys l = l

  pub filtered : (p q : X → Bool) (xs : List X) → length (filter p (filter q xs)) ≤ length (filter p xs)
  filtered p q [] = omega arith
  filtered p q (x ∷ xs) = elim (q x) as (λ b. length (filter p (cond b (x ∷ filter q xs) (filter q xs))) ≤ length (cond (p x) (x ∷ filter p xs) (filter p xs))) [
    | true ↦ fewer (p x) x (filter p (filter q xs)) (filter p xs) (filtered p q xs)
    | false ↦ skipped (p x) x (filter p (filter q xs)) (filter p xs) (filtered p q xs)
  ]

  -- where each item has one of the n first numbers, and at most c have the same, there are at most c * n
  pub at-most-each : (number : X → ℕ) (c n : ℕ) (xs : List X) → All (λ x. number x < n) xs → ((k : ℕ) → count_by (λ x. number x == k) xs ≤ c) → length xs ≤ c * n
  at-most-each number c zero [] all few = omega arith
  at-most-each number c zero (x ∷ xs) all few = let none = all 0 x (omega arith) in absurd (omega (arith, none))
  at-most-each number c (suc n) xs all few =
      let last : X → Bool = λ x. number x == n in
      let rest : List X = filter (λ x. not (last x)) xs in
      let both = length-filter_both last (λ x. not (last x)) (λ x. refl) xs in
      let own : length (filter last xs) ≤ c = omega (arith, length-filter last xs, few n) in
      let below : All (λ x. number x < n) rest = λ k d l.
      let within = All-filter (λ x. not (last x)) (λ x. number x < suc n) xs all k d l in
      let passes = filter_passes (λ x. not (last x)) xs k d l in
      other (number _) n passes within in
      let less = at-most-each number c n rest below
      (λ k. omega (arith, filtered (λ x. number x == k) (λ x. not (last x)) xs, length-filter (λ x. number x == k) rest, length-filter (λ x. number x == k) xs, few k)) in
      grind (arith, both, own, less)
    where
      other : (m n : ℕ) → not (m == n) ≡ true → m < suc n → m < n
      other m n differs l = grind (arith, nat_tests, differs, l)
