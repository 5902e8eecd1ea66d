-- Sums over all rungs of all ladders.
use Rattle.std.proofs.Common.{◌≡◌, ◌==◌, if◌then◌else◌, ◌+◌, ◌<◌, ◌≤◌, ℕ, zero, suc, ℤ, pos, ◌+ℤ◌, ◌*ℤ◌, ◌≤ℤ◌, List, [], ◌∷◌, Vec, Global, length, take, get_or, arith, ap, refl, sym, ◌∙◌, inl, inr}
use Rattle.std.proofs.lemmas.Int.{ints}
use Rattle.std.proofs.lemmas.Bool.{cases_eq, cases_lt}
use Rattle.std.proofs.lemmas.List.{take_all}
use Rattle.std.specs.List.{All}
use Rattle.mari_market.specs.declared.market.Border.{Border}
use Rattle.mari_market.specs.Sums.{int_sum}
use Rattle.mari_market.proofs.Sums.{int_sum_more, sum_below, sum_below-place, sum_below-same}
use Rattle.mari_network.specs.declared.network.Places.{Places}
use Rattle.mari_network.specs.declared.network.Rung.{Rung}
use Rattle.mari_network.specs.declared.slots.Slot.{Slot}
use Rattle.mari_network.specs.Network.{sum_of_zone, ArePlaces}
use Rattle.mari_network.specs.Slots.{at_zone, no_slot, slot_at, zone_of}

-- a sum over a list is one over its places
sum_by_place : {X : Type 0} (f : X → ℤ) (xs : List X) (d : X) (n : ℕ) → n ≤ length xs → int_sum f (take n xs) ≡ sum_below n (λ k. f (get_or xs k d))
sum_by_place f xs d zero l = refl
sum_by_place f xs d (suc n) l =
    let e : suc n ≡ n + 1 = omega arith in
    ap (λ (k : ℕ). int_sum f (take k xs)) e ∙ omega (arith, ints, int_sum_more f xs n d (omega (arith, l)), sum_by_place f xs d n (omega (arith, l)))

sum_of_list : {X : Type 0} (f : X → ℤ) (xs : List X) (d : X) (n : ℕ) → length xs ≡ n → int_sum f xs ≡ sum_below n (λ k. f (get_or xs k d))
sum_of_list f xs d n e = ap (int_sum f) (sym (take_all n xs (omega (arith, e)))) ∙ sum_by_place f xs d n (omega (arith, e))

sum_of_none : (n : ℕ) → sum_below n (λ z. pos 0) ≡ pos 0
sum_of_none zero = refl
sum_of_none (suc n) = omega (arith, ints, sum_of_none n)

sum_of_both : (n : ℕ) (f g : ℕ → ℤ) → sum_below n (λ z. f z +ℤ g z) ≡ sum_below n f +ℤ sum_below n g
sum_of_both zero f g = refl
sum_of_both (suc n) f g = omega (arith, ints, sum_of_both n f g)

one_of : (x : ℤ) → x ≡ pos 1 *ℤ x
one_of x = omega (arith, ints)

sum_at_zone : (n y : ℕ) (x : ℤ) → y < n → sum_below n (λ z. at_zone z y x) ≡ x
sum_at_zone n y x l =
    sum_below-same n (λ z. at_zone z y x) (λ z. pos 1 *ℤ at_zone z y x) (λ z m. one_of (at_zone z y x))
    ∙ sum_below-place (λ z. pos 1) y x n l ∙ sym (one_of x)

-- the sums of all zones are that of all places
sum_of_zones : (f : ℕ → ℤ) (slots : List Slot) (zones n : ℕ) → ((k : ℕ) → k < n → zone_of slots k < zones) → sum_below zones (λ z. sum_of_zone f slots z n) ≡ sum_below n f
sum_of_zones f slots zones zero there = sum_of_none zones
sum_of_zones f slots zones (suc n) there =
    omega (
      arith,
      ints,
      sum_of_both zones (λ z. sum_of_zone f slots z n) (λ z. at_zone z (zone_of slots n) (f n)),
      sum_at_zone zones (zone_of slots n) (f n) (there n (omega arith)),
      sum_of_zones f slots zones n (λ k l. there k (omega (arith, l))),
    )

-- a sum over a list by what stands at each place
sum_by_terms : {X : Type 0} (f : X → ℤ) (g : ℕ → ℤ) (xs : List X) (n : ℕ) → length xs ≡ n → ((k : ℕ) (d : X) → k < n → f (get_or xs k d) ≡ g k) → int_sum f xs ≡ sum_below n g
sum_by_terms f g [] zero e h = refl
sum_by_terms f g [] (suc n) e h = absurd (omega (arith, e))
sum_by_terms f g (x ∷ xs) n e h = sum_of_list f (x ∷ xs) x n e ∙ sum_below-same n (λ k. f (get_or (x ∷ xs) k x)) g (λ k l. h k x l)

-- 1 at one place and 0 at others
abbrev one_at : ℕ → ℕ → ℤ
one_at k j = if k == j then pos 1 else pos 0

at_it : (k j : ℕ) → j ≡ k → one_at k j ≡ pos 1
at_it k j e = grind (arith)

not_at_it : (k j : ℕ) → (j ≡ k → ⊥) → one_at k j ≡ pos 0
not_at_it k j n = grind (arith)

some_at : (k j : ℕ) → pos 0 ≤ℤ one_at k j
some_at k j = elim (cases_eq j k) [ inl e ↦ omega (arith, ints, at_it k j e) | inr n ↦ omega (arith, ints, not_at_it k j n) ]

zone_most : (z y : ℕ) (x : ℤ) → pos 0 ≤ℤ x → at_zone z y x ≤ℤ x
zone_most z y x l = grind (arith, ints)

zone_none : (z y : ℕ) (x : ℤ) → x ≡ pos 0 → at_zone z y x ≡ pos 0
zone_none z y x e = grind (arith, ints)

none_before : (k : ℕ) (slots : List Slot) (z n : ℕ) → n ≤ k → sum_of_zone (one_at k) slots z n ≡ pos 0
none_before k slots z zero l = refl
none_before k slots z (suc n) l =
    omega (arith, ints, none_before k slots z n (omega (arith, l)), zone_none z (zone_of slots n) (one_at k n) (not_at_it k n (λ e. absurd (omega (arith, e, l)))))

one_of_zone : (k : ℕ) (slots : List Slot) (z n : ℕ) → sum_of_zone (one_at k) slots z n ≤ℤ pos 1
one_of_zone k slots z zero = omega (arith, ints)
one_of_zone k slots z (suc n) = elim (cases_eq n k) [
  | inl e ↦ omega (arith, ints, none_before k slots z n (omega (arith, e)), zone_most z (zone_of slots n) (one_at k n) (some_at k n), at_it k n e)
  | inr other ↦ omega (arith, ints, one_of_zone k slots z n, zone_none z (zone_of slots n) (one_at k n) (not_at_it k n other))
]

some_on : (k : ℕ) (rs : List Rung) → pos 0 ≤ℤ int_sum (λ (r : Rung). one_at k r.place) rs
some_on k [] = omega (arith, ints)
some_on k (r ∷ rs) = omega (arith, ints, some_at k r.place, some_on k rs)

one_on : (k : ℕ) (rs : List Rung) (j : ℕ) (d : Rung) → j < length rs → (get_or rs j d).place ≡ k → pos 1 ≤ℤ int_sum (λ (r : Rung). one_at k r.place) rs
one_on k [] j d l e = absurd (omega arith)
one_on k (r ∷ rs) zero d l e = omega (arith, ints, at_it k r.place e, some_on k rs)
one_on k (r ∷ rs) (suc j) d l e = omega (arith, ints, some_at k r.place, one_on k rs j d (omega arith) e)

two_on : (k : ℕ) (rs : List Rung) (i j : ℕ) (d : Rung) → i < j → j < length rs → (get_or rs i d).place ≡ k → (get_or rs j d).place ≡ k → pos 2 ≤ℤ int_sum (λ (r : Rung). one_at k r.place) rs
two_on k [] i j d l m e f = absurd (omega arith)
two_on k (r ∷ rs) i zero d l m e f = absurd (omega arith)
two_on k (r ∷ rs) zero (suc j) d l m e f = omega (arith, ints, at_it k r.place e, one_on k rs j d (omega arith) f)
two_on k (r ∷ rs) (suc i) (suc j) d l m e f = omega (arith, ints, some_at k r.place, two_on k rs i j d (omega arith) (omega arith) e f)

-- no slot stands on a zone's ladder twice
pub stands_once : (slots : List Slot) (n z : ℕ) (rs : List Rung) → ((f : ℕ → ℤ) → int_sum (λ (r : Rung). f r.place) rs ≡ sum_of_zone f slots z n)
    → (i j : ℕ) (d : Rung) → i < length rs → j < length rs → (get_or rs i d).place ≡ (get_or rs j d).place → i ≡ j
stands_once slots n z rs once i j d l m same = elim (cases_lt i j) [
  | inl a ↦ absurd (omega (arith, ints, two_on (get_or rs j d).place rs i j d a m same refl, once (one_at (get_or rs j d).place), one_of_zone (get_or rs j d).place slots z n))
  | inr a ↦ elim (cases_lt j i) [
    | inl b ↦ absurd (omega (arith, ints, two_on (get_or rs j d).place rs j i d b l refl same, once (one_at (get_or rs j d).place), one_of_zone (get_or rs j d).place slots z n))
    | inr b ↦ omega (arith, a, b)
  ]
]

-- each slot stands on one ladder, once
pub sum_of_ladders : (zones : ℕ) (slots : List Slot) (bs : List Border) (p : Places) → All (λ (s : Slot). s.zone < zones) slots → p.on_ladders ≡ length slots → ArePlaces zones slots bs p
    → (f : Slot → ℤ) → int_sum (λ (v : Vec Rung Global). int_sum (λ (r : Rung). f (slot_at slots r.place)) v.items) p.ladders.items ≡ int_sum f slots
sum_of_ladders zones slots bs p there on a f =
    sum_by_terms (λ (v : Vec Rung Global). int_sum (λ (r : Rung). f (slot_at slots r.place)) v.items)
    (λ z. sum_of_zone (λ k. f (slot_at slots k)) slots z p.on_ladders) p.ladders.items zones a.ladders_long
    (λ z v l. (a.ladders z v l).rungs.once (λ k. f (slot_at slots k)))
    ∙ sum_of_zones (λ k. f (slot_at slots k)) slots zones p.on_ladders (λ k l. there k no_slot (omega (arith, l, on)))
    ∙ sym (sum_of_list f slots no_slot p.on_ladders (sym on))
