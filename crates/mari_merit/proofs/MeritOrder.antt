-- Steps one order after the other, and in merit order after the sort.
use Rattle.std.proofs.Common.{◌≡◌, ◌⊎◌, inr, ℕ, zero, suc, ◌+◌, ◌-◌, ◌<◌, ◌≤◌, true, false, ℤ, ◌<ℤ◌, List, [], ◌∷◌, ◌++◌, length, slice_index_or, arith, refl, ap}
use Rattle.std.proofs.lemmas.Int.{ints}
use Rattle.std.proofs.lemmas.List.{append-nil}
use Rattle.std.proofs.lemmas.List.FromFn.{filter_of_map_range_with_len_more}
use Rattle.std.specs.List.Sorted.{IsSortedBy}
use Rattle.std.specs.Ordering.{int_cmp, nat_cmp, ordering_then, is_lt}
use Rattle.mari_market.specs.declared.activation.Bounds.{Bounds}
use Rattle.mari_market.specs.declared.market.Market.{Market}
use Rattle.mari_market.specs.declared.market.Side.{Side}
use Rattle.mari_market.specs.declared.market.Side.TheVariants.{Inject, Withdraw}
use Rattle.mari_merit.specs.declared.ladder.Step.{Step}
use Rattle.mari_merit.specs.Ladder.{AreInMeritOrder, IsNotAfter, belongs, step_of, steps_among}

by_price_and_number : (p q : ℤ) (m n : ℕ) → is_lt (ordering_then (int_cmp q p) (nat_cmp n m)) ≡ false → (p <ℤ q) ⊎ ((p ≡ q) × (m ≤ n))
by_price_and_number p q m n h = grind (arith, ints)

-- a step that doesn't sort below one isn't what that one is after: by price and number, and by price turned round and
-- number
cheaper : (a b : Step) → is_lt (ordering_then (int_cmp b.price.0 a.price.0) (nat_cmp b.order a.order)) ≡ false → IsNotAfter Inject a b
cheaper a b h = by_price_and_number a.price.0 b.price.0 a.order b.order h

turned : (p q : ℤ) (m n : ℕ) → is_lt (ordering_then (int_cmp p q) (nat_cmp n m)) ≡ false → (q <ℤ p) ⊎ ((p ≡ q) × (m ≤ n))
turned p q m n h = grind (arith, ints)

dearer : (a b : Step) → is_lt (ordering_then (int_cmp a.price.0 b.price.0) (nat_cmp b.order a.order)) ≡ false → IsNotAfter Withdraw a b
dearer a b h = turned a.price.0 b.price.0 a.order b.order h

same : (side : Side) (a : Step) → IsNotAfter side a a
same Inject a = inr (refl, omega arith)
same Withdraw a = inr (refl, omega arith)

along : (p q r : ℤ) (k m n : ℕ) → (p <ℤ q) ⊎ ((p ≡ q) × (k ≤ m)) → (q <ℤ r) ⊎ ((q ≡ r) × (m ≤ n)) → (p <ℤ r) ⊎ ((p ≡ r) × (k ≤ n))
along p q r k m n h g = grind (arith, ints)

back : (p q r : ℤ) (k m n : ℕ) → (q <ℤ p) ⊎ ((p ≡ q) × (k ≤ m)) → (r <ℤ q) ⊎ ((q ≡ r) × (m ≤ n)) → (r <ℤ p) ⊎ ((p ≡ r) × (k ≤ n))
back p q r k m n h g = grind (arith, ints)

through : (side : Side) (a b c : Step) → IsNotAfter side a b → IsNotAfter side b c → IsNotAfter side a c
through Inject a b c h g = along a.price.0 b.price.0 c.price.0 a.order b.order c.order h g
through Withdraw a b c h g = back a.price.0 b.price.0 c.price.0 a.order b.order c.order h g

far : (side : Side) (steps : List Step) → ((k : ℕ) (d : Step) → k + 1 < length steps → IsNotAfter side (slice_index_or steps k d) (slice_index_or steps (k + 1) d))
    → (i m : ℕ) (d : Step) → i + m < length steps → IsNotAfter side (slice_index_or steps i d) (slice_index_or steps (i + m) d)
far side steps next i zero d l = let at : i + zero ≡ i = omega arith in rw (ap (λ k. slice_index_or steps k d) at) (same side (slice_index_or steps i d))
far side steps next i (suc m) d l =
    let on : i + m + 1 ≡ i + suc m = omega arith in
    let last = rw (ap (λ k. slice_index_or steps k d) on) at (next (i + m) d (omega arith)) in
    through side _ _ _ (far side steps next i m d (omega arith)) last

-- where no step is after the next one, none is after a later one
in_merit_order : (side : Side) (steps : List Step)
    → ((k : ℕ) (d : Step) → k + 1 < length steps → IsNotAfter side (slice_index_or steps k d) (slice_index_or steps (k + 1) d)) → AreInMeritOrder side steps
in_merit_order side steps next i j d le l =
    let at : i + (j - i) ≡ j = omega arith in
    rw (ap (λ k. slice_index_or steps k d) at) at (far side steps next i (j - i) d (omega arith))

-- a list sorted by price and number, and one by the price turned round and number
pub cheapest_first : (steps : List Step) → IsSortedBy (λ (x y : Step). is_lt (ordering_then (int_cmp x.price.0 y.price.0) (nat_cmp x.order y.order))) steps
    → AreInMeritOrder Inject steps
cheapest_first steps h = in_merit_order Inject steps (λ k d l. cheaper (slice_index_or steps k d) (slice_index_or steps (k + 1) d) (h k d (omega arith) l))

pub dearest_first : (steps : List Step) → IsSortedBy (λ (x y : Step). is_lt (ordering_then (int_cmp y.price.0 x.price.0) (nat_cmp x.order y.order))) steps
    → AreInMeritOrder Withdraw steps
dearest_first steps h = in_merit_order Withdraw steps (λ k d l. dearer (slice_index_or steps k d) (slice_index_or steps (k + 1) d) (h k d (omega arith) l))

-- an order whose step belongs to the ladder adds it, and no other adds one
pub one_more : (m : Market) (b : Bounds) (zone : ℕ) (side : Side) (n : ℕ) → belongs m zone side (step_of m b n) ≡ true
    → steps_among m b zone side (n + 1) ≡ steps_among m b zone side n ++ step_of m b n ∷ []
one_more m b zone side n h = rw h at (filter_of_map_range_with_len_more (belongs m zone side) (step_of m b) 0 n n (omega arith))

pub no_more : (m : Market) (b : Bounds) (zone : ℕ) (side : Side) (n : ℕ) → belongs m zone side (step_of m b n) ≡ false
    → steps_among m b zone side (n + 1) ≡ steps_among m b zone side n
no_more m b zone side n h = rw (append-nil (steps_among m b zone side n)) at (rw h at (filter_of_map_range_with_len_more (belongs m zone side) (step_of m b) 0 n n (omega arith)))
