-- Which node a queue gives, and that each waits with its key.
use Rattle.std.proofs.Common.{◌≡◌, ◌∙◌, Bool, true, false, cond, ℕ, ◌≤◌, nat_lt, Less, Equal, Greater, nat_cmp, is_lt, List, [], ◌∷◌, ◌++◌, map, get_or, All, IsPermutation, arith, ltb-false, eq-eqb}
use Rattle.std.specs.Ordering.{ordering_then}
use Rattle.std.specs.BinaryHeap.{IsUpperBound}
use Rattle.std.proofs.lemmas.Option.{get_or_from_slice_get, slice_get_within}
use Rattle.std.proofs.lemmas.List.Elements.{All-from_recursion, All-cons, All-head, All-tail, All-map, All-weaker}
use Rattle.std.proofs.lemmas.List.Sorted.{All-permutation}
use Rattle.mari_units.proofs.Lists.{get_front}
use Rattle.mari_pool.specs.Queued.{Waiting, number_in, by_key, IsAhead, IsKeyed}

-- ---- the order

by_tests : (s e t u : Bool) → is_lt (ordering_then (cond s Less (cond e Equal Greater)) (cond t Less (cond u Equal Greater))) ≡ false → (s ≡ false) × (e ≡ true → t ≡ false)
by_tests s e t u h = grind arith

not_lt : (a b n m : ℕ) → is_lt (ordering_then (nat_cmp a b) (nat_cmp n m)) ≡ false → (b ≤ a) × (b ≡ a → m ≤ n)
not_lt a b n m h = grind (arith, by_tests, nat_lt, ltb-false, eq-eqb)

key_is : (keys : List ℕ) (w : Waiting) → IsKeyed keys w → get_or keys (number_in w) 0 ≡ w.0
key_is keys w h = get_or_from_slice_get keys (number_in w) w.0 0 h

ahead_of : (keys : List ℕ) (v w : Waiting) → IsKeyed keys v → IsKeyed keys w → is_lt (by_key v w) ≡ false → IsAhead keys (number_in v) (number_in w)
ahead_of keys v w hv hw h = grind (arith, not_lt, key_is)

-- the one that leaves was ahead of each
pub first_ahead : (keys : List ℕ) (xs ys : List Waiting) (w : Waiting) → All (IsKeyed keys) xs
    → IsPermutation xs (w ∷ ys) → IsUpperBound by_key w xs → All (IsAhead keys (number_in w)) (map number_in xs)
first_ahead keys xs ys w keyed leaves most =
    let own : IsKeyed keys w = All-head (IsKeyed keys) w ys (All-permutation (IsKeyed keys) xs (w ∷ ys) leaves keyed) in
    let below : All (λ (v : Waiting). is_lt (by_key w v) ≡ false) xs = All-from_recursion (λ (v : Waiting). is_lt (by_key w v) ≡ false) xs most in
    All-map (IsAhead keys (number_in w)) number_in xs (λ k d l. ahead_of keys w (get_or xs k d) own (keyed k d l) (below k d l))

-- ---- keys

-- where one leaves, the others keep their keys
pub keyed_left : (keys : List ℕ) (xs ys : List Waiting) (w : Waiting) → All (IsKeyed keys) xs → IsPermutation xs (w ∷ ys) → All (IsKeyed keys) ys
keyed_left keys xs ys w keyed leaves = All-tail (IsKeyed keys) w ys (All-permutation (IsKeyed keys) xs (w ∷ ys) leaves keyed)

-- where one joins with its key
pub keyed_joined : (keys : List ℕ) (xs ys : List Waiting) (w : Waiting) → IsKeyed keys w → All (IsKeyed keys) xs → IsPermutation (w ∷ xs) ys → All (IsKeyed keys) ys
keyed_joined keys xs ys w own keyed joins = All-permutation (IsKeyed keys) (w ∷ xs) ys joins (All-cons (IsKeyed keys) w xs own keyed)

-- a key more
pub keyed_more : (keys : List ℕ) (key : ℕ) (xs : List Waiting) → All (IsKeyed keys) xs → All (IsKeyed (keys ++ key ∷ [])) xs
keyed_more keys key xs keyed = All-weaker (IsKeyed keys) (IsKeyed (keys ++ key ∷ [])) (λ w h. get_front keys (key ∷ []) (number_in w) (slice_get_within keys (number_in w) w.0 h) ∙ h) xs keyed
