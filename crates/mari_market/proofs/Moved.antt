-- Sums over lists in another order, and over lists with one item more.
use Rattle.std.proofs.Common.{◌≡◌, ℕ, suc, ◌<◌, ℤ, ◌+ℤ◌, List, [], ◌∷◌, ◌++◌, length, set, get_or, get_or-set_other, arith, refl, ap, ◌∙◌, inl, inr}
use Rattle.std.proofs.lemmas.Int.{ints}
use Rattle.std.proofs.lemmas.Bool.{cases_eq}
use Rattle.std.proofs.lemmas.List.{get_or-set_same, length-set}
use Rattle.std.proofs.lemmas.List.Edits.{swap_is}
use Rattle.std.proofs.lemmas.List.Sorted.{IsPermutation-keeps}
use Rattle.std.specs.List.{swap}
use Rattle.std.specs.List.Sorted.{IsPermutation}
use Rattle.mari_market.specs.Sums.{int_sum}

-- one item more at the end
pub sum_push : {X : Type 0} (f : X → ℤ) (xs : List X) (x : X) → int_sum f (xs ++ x ∷ []) ≡ int_sum f xs +ℤ f x
sum_push f [] x = omega (arith, ints)
sum_push f (y ∷ ys) x = omega (arith, ints, sum_push f ys x)

sum_set : {X : Type 0} (f : X → ℤ) (xs : List X) (i : ℕ) (x d : X) → i < length xs → int_sum f (set xs i x) +ℤ f (get_or xs i d) ≡ int_sum f xs +ℤ f x
sum_set f (y ∷ ys) (suc i) x d l = omega (arith, ints, sum_set f ys i x d (omega arith))
sum_set f _ _ x d l = omega (arith, ints)

read_set : {X : Type 0} (xs : List X) (i j : ℕ) (d : X) → i < length xs → get_or (set xs i (get_or xs j d)) j d ≡ get_or xs j d
read_set xs i j d l = elim (cases_eq j i) [
  | inl same ↦ ap (λ (k : ℕ). get_or (set xs i (get_or xs j d)) k d) same ∙ get_or-set_same xs i (get_or xs j d) d l
  | inr other ↦ get_or-set_other xs i j (get_or xs j d) d other
]

sum_swap : {X : Type 0} (f : X → ℤ) (xs : List X) (i j : ℕ) → i < length xs → j < length xs → int_sum f (swap xs i j) ≡ int_sum f xs
sum_swap f [] i j l m = absurd (omega arith)
sum_swap f (d ∷ ys) i j l m =
    let xs = d ∷ ys in
    let first = sum_set f xs i (get_or xs j d) d l in
    let second = sum_set f (set xs i (get_or xs j d)) j (get_or xs i d) d (omega (arith, m, length-set xs i (get_or xs j d))) in
    omega (arith, ints, first, second, ap f (read_set xs i j d l), ap (int_sum f) (swap_is xs i j d l m))

-- a sum is the same in another order
pub sum_moved : {X : Type 0} (f : X → ℤ) (xs ys : List X) → IsPermutation xs ys → int_sum f ys ≡ int_sum f xs
sum_moved f xs ys same = IsPermutation-keeps xs (λ l. int_sum f l ≡ int_sum f xs) refl (λ l i j a b e. sum_swap f l i j a b ∙ e) ys same
