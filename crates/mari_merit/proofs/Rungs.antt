-- Where the merit order has met the need.
use Rattle.std.proofs.Common.{◌⊎◌, inl, inr, w64, to_z, of_z, to_z-of_z, ◌≡◌, ℕ, zero, suc, ◌+◌, ◌<◌, ◌≤◌, ℤ, ◌≤ℤ◌, List, [], ◌∷◌, length, map, take, slice_index_or, arith, refl, sum_by}
use Rattle.std.proofs.lemmas.Int.{ints}
use Rattle.std.proofs.lemmas.List.Sums.{sum_by-cons}
use Rattle.std.proofs.lemmas.List.Sorted.{sum_by-IsPermutation}
use Rattle.std.specs.List.Sorted.{IsPermutation}
use Rattle.std.specs.Prelude.{FitsSigned}
use Rattle.mari_market.specs.declared.market.Side.{Side}
use Rattle.mari_market.specs.declared.market.Side.TheVariants.{Inject, Withdraw}
use Rattle.mari_market.specs.declared.market.Order.{Order}
use Rattle.mari_market.specs.Price.{IsPrice}
use Rattle.mari_merit.specs.declared.marginal.Rung.{Rung}
use Rattle.mari_merit.specs.Merit.{rung_of, withdrawn_by, withdrawn_in, by_price, room_below, room_at, IsAscending, IsMarginal}

-- the rooms of the rungs
abbrev pub room : List Rung → ℕ
room rungs = sum_by (λ (r : Rung). r.room) rungs

not_below : (p c : ℤ) (below at : ℕ) → p ≤ℤ c → by_price p c below 0 0 ≡ 0
not_below p c below at h = grind (arith, ints)

below_at_most : (p c : ℤ) (q : ℕ) → by_price p c q 0 0 ≤ q
below_at_most p c q = grind (arith, ints)

split : (p c : ℤ) (q : ℕ) → c ≤ℤ p → q ≡ by_price p c q 0 0 + by_price p c 0 0 q
split p c q h = grind (arith, ints)

none_below : (p : ℤ) (rs : List Rung) → ((j : ℕ) (d : Rung) → j < length rs → p ≤ℤ (slice_index_or rs j d).price) → room_below p rs ≡ 0
none_below p [] h = refl
none_below p (r ∷ rs) h = omega (
  arith,
  sum_by-cons (λ (r : Rung). by_price p r.price r.room 0 0) r rs,
  not_below p r.price r.room 0 (h 0 r (omega arith)),
  none_below p rs (λ j d l. h (suc j) d (omega arith)),
)

-- the rungs before a place have at least the room of those that are cheaper
pub cheaper_before : (rs : List Rung) (k : ℕ) (d : Rung) → IsAscending rs → k < length rs → room_below ((slice_index_or rs k d).price) rs ≤ room (take k rs)
cheaper_before [] k d up l = absurd (omega arith)
cheaper_before (r ∷ rs) zero d up l = omega (arith, none_below r.price (r ∷ rs) (λ j e m. up 0 j e (omega arith) m))
cheaper_before (r ∷ rs) (suc k) d up l =
    let p : ℤ = (slice_index_or rs k d).price in
    omega (
      arith,
      sum_by-cons (λ (r : Rung). by_price p r.price r.room 0 0) r rs,
      sum_by-cons (λ (r : Rung). r.room) r (take k rs),
      below_at_most p r.price r.room,
      cheaper_before rs k d (λ i j e m n. up (suc i) (suc j) e (omega arith) (omega arith)) (omega arith),
    )

withdrawn_at_most : (side : Side) (q : ℕ) → withdrawn_by side q ≤ q
withdrawn_at_most Inject q = omega arith
withdrawn_at_most Withdraw q = omega arith

room_more : (rs : List Rung) (k : ℕ) (d : Rung) → k < length rs → room (take (suc k) rs) ≡ room (take k rs) + (slice_index_or rs k d).room
room_more [] k d l = absurd (omega arith)
room_more (r ∷ rs) zero d l = omega (arith, sum_by-cons (λ (r : Rung). r.room) r [])
room_more (r ∷ rs) (suc k) d l = omega (arith, sum_by-cons (λ (r : Rung). r.room) r (take (suc k) rs), sum_by-cons (λ (r : Rung). r.room) r (take k rs), room_more rs k d (omega arith))

-- and with the one at the place no more than the room of those that are no dearer
pub no_dearer_to : (rs : List Rung) (k : ℕ) (d : Rung) → IsAscending rs → k < length rs
    → room (take (suc k) rs) ≤ room_below ((slice_index_or rs k d).price) rs + room_at ((slice_index_or rs k d).price) rs
no_dearer_to [] k d up l = absurd (omega arith)
no_dearer_to (r ∷ rs) zero d up l =
    let p : ℤ = r.price in
    omega (
      arith,
      sum_by-cons (λ (r : Rung). by_price p r.price r.room 0 0) r rs,
      sum_by-cons (λ (r : Rung). by_price p r.price 0 0 r.room) r rs,
      sum_by-cons (λ (r : Rung). r.room) r [],
      split p r.price r.room (omega (arith, ints)),
    )
no_dearer_to (r ∷ rs) (suc k) d up l =
    let p : ℤ = (slice_index_or rs k d).price in
    let h : r.price ≤ℤ p = up 0 (suc k) d (omega arith) l in
    omega (
      arith,
      sum_by-cons (λ (r : Rung). by_price p r.price r.room 0 0) r rs,
      sum_by-cons (λ (r : Rung). by_price p r.price 0 0 r.room) r rs,
      sum_by-cons (λ (r : Rung). r.room) r (take (suc k) rs),
      split p r.price r.room h,
      no_dearer_to rs k d (λ i j e m n. up (suc i) (suc j) e (omega arith) (omega arith)) (omega arith),
    )

-- what the withdrawals take is no more than all rungs have
pub enough : (os : List Order) → withdrawn_in os ≤ room (map rung_of os)
enough [] = omega arith
enough (o ∷ os) = omega (
  arith,
  sum_by-cons (λ (o : Order). withdrawn_by o.side o.greatest) o os,
  sum_by-cons (λ (r : Rung). r.room) (rung_of o) (map rung_of os),
  withdrawn_at_most o.side o.greatest,
  enough os,
)

-- a marginal price of rungs in one order is one of the same rungs in any other
pub reordered : (xs ys : List Rung) (need : ℕ) (p : ℤ) → IsPermutation xs ys → IsMarginal ys need p → IsMarginal xs need p
reordered xs ys need p same h = record {
  price = h.price;
  cheaper = omega (arith, h.cheaper, sum_by-IsPermutation (λ (r : Rung). by_price p r.price r.room 0 0) xs ys same);
  met = omega (arith, h.met, sum_by-IsPermutation (λ (r : Rung). by_price p r.price r.room 0 0) xs ys same, sum_by-IsPermutation (λ (r : Rung). by_price p r.price 0 0 r.room) xs ys same);
}

-- the rung that meets the need is marginal
pub at_rung : (rs : List Rung) (k need met : ℕ) (d : Rung) → IsAscending rs → k < length rs → IsPrice ((slice_index_or rs k d).price) → met ≡ room (take k rs)
    → met ≤ need → need ≤ met + (slice_index_or rs k d).room → IsMarginal rs need ((slice_index_or rs k d).price)
at_rung rs k need met d up l price e below enough = record {
  price = price;
  cheaper = omega (arith, cheaper_before rs k d up l);
  met = omega (arith, no_dearer_to rs k d up l, room_more rs k d l);
}

-- so far no more is met than the need
pub not_beyond : (rs : List Rung) (k need met : ℕ) → met ≡ room (take k rs) → (met < need) ⊎ (k ≡ 0) → met ≤ need
not_beyond rs k need met e (inl l) = omega arith
not_beyond rs k need met e (inr z) = let none : room (take k rs) ≡ 0 = rw z refl in omega (arith, none)

-- a price as the code has it
pub as_read : (rs : List Rung) (need : ℕ) (p : ℤ) → IsPrice p → IsMarginal rs need p → IsMarginal rs need (to_z w64 (of_z w64 p))
as_read rs need p price h = let fits : FitsSigned w64 p = omega (arith, ints, price.low, price.high) in rw (to_z-of_z fits) h
