-- The welfare of the whole is the sum of that of the islands.
use Rattle.std.proofs.Common.{◌≡◌, ◌==◌, if◌then◌else◌, ℕ, zero, suc, ◌<◌, Bool, true, false, ℤ, pos, ◌+ℤ◌, ◌*ℤ◌, ◌≤ℤ◌, List, [], ◌∷◌, ◌++◌, length, filter, cond, refl, sym, ap, ◌∙◌, subst, arith, inl, inr}
use Rattle.std.specs.Prelude.{Contains}
use Rattle.std.specs.List.{range_with_len}
use Rattle.std.proofs.lemmas.Bool.{cases_lt, cond-false, cond-true, eq-eqb}
use Rattle.std.proofs.lemmas.Int.{ints}
use Rattle.std.proofs.lemmas.List.Elements.{All-contains_itself, All-weaker}
use Rattle.mari_market.specs.declared.activation.Activation.{Activation}
use Rattle.mari_market.specs.declared.market.Market.{Market}
use Rattle.mari_market.specs.declared.market.Order.{Order}
use Rattle.mari_market.specs.Activation.{order_gain, welfare_of}
use Rattle.mari_market.specs.Market.{IsValid, IsValidOrder}
use Rattle.mari_market.specs.Sums.{int_sum, sum_along}
use Rattle.mari_market.proofs.Sums.{spread, sum_below, sum_below-place, sum_below-same}
use Rattle.mari_islands.specs.Part.{is_order_in, order_among}
use Rattle.mari_islands.proofs.Beside.{side_all, sum_beside}
use Rattle.mari_islands.proofs.Consistent.{HasHeads}
use Rattle.mari_islands.proofs.Inside.{gates_of, inside, zones_of}
use Rattle.mari_islands.proofs.Numbers.{numbers_more}
use Rattle.mari_islands.proofs.Open.{island_of, own_of}

-- ---- sums over numbers

pub sum_below-le : (n : ℕ) (f g : ℕ → ℤ) → ((z : ℕ) → z < n → f z ≤ℤ g z) → sum_below n f ≤ℤ sum_below n g
sum_below-le zero f g h = omega (arith, ints)
sum_below-le (suc n) f g h = omega (arith, ints, h n (omega arith), sum_below-le n f g (λ z l. h z (omega arith)))

-- where each term is at most another and the sum isn't less, the terms are equal
pub sum_below-tight : (n : ℕ) (f g : ℕ → ℤ) → ((z : ℕ) → z < n → f z ≤ℤ g z) → sum_below n g ≤ℤ sum_below n f → (z : ℕ) → z < n → g z ≤ℤ f z
sum_below-tight zero f g h e z l = absurd (omega arith)
sum_below-tight (suc n) f g h e z l =
    let here = h n (omega arith) in
    let before = sum_below-le n f g (λ y k. h y (omega arith)) in
    elim (cases_lt z n) [
      | inl less ↦ sum_below-tight n f g (λ y k. h y (omega arith)) (omega (arith, ints, e, here)) z less
      | inr more ↦ subst (λ (y : ℕ). g y ≤ℤ f y) (omega arith) (last here before)
    ]
  where
    last : f n ≤ℤ g n → sum_below n f ≤ℤ sum_below n g → g n ≤ℤ f n
    last here before = omega (arith, ints, e, before)

int_sum-append : {X : Type 0} (g : X → ℤ) (xs ys : List X) → int_sum g (xs ++ ys) ≡ int_sum g xs +ℤ int_sum g ys
int_sum-append g [] ys = omega (arith, ints)
int_sum-append g (x ∷ xs) ys = omega (arith, ints, int_sum-append g xs ys)

-- 1 where a number passes, and else 0
abbrev pub counts : (ℕ → Bool) → ℕ → ℤ
counts t f = if t f then pos 1 else pos 0

counted : (b : Bool) (v : ℤ) (g : ℕ → ℤ) (n : ℕ) → v ≡ g n → int_sum g (cond b (n ∷ []) []) ≡ (if b then pos 1 else pos 0) *ℤ v
counted true v g n e = omega (arith, ints, e)
counted false v g n e = omega (arith, ints)

-- the sum over the numbers that pass
pub passing_sum : (t : ℕ → Bool) (g : ℕ → ℤ) (n : ℕ) → int_sum g (filter t (range_with_len 0 n)) ≡ sum_below n (λ f. counts t f *ℤ g f)
passing_sum t g zero = refl
passing_sum t g (suc n) =
    let split : filter t (range_with_len 0 (suc n)) ≡ filter t (range_with_len 0 n) ++ cond (t n) (n ∷ []) [] = numbers_more t n in
    let both = ap (int_sum g) split ∙ int_sum-append g (filter t (range_with_len 0 n)) (cond (t n) (n ∷ []) []) in
    omega (arith, ints, both, passing_sum t g n, counted (t n) (g n) g n refl)

-- ---- welfare

-- whether a zone is the first of its island
abbrev pub is_head : (ℕ → ℕ) → ℕ → Bool
is_head first f = first f == f

module _ (m : Market) (first : ℕ → ℕ) (v : IsValid m) (heads : HasHeads m first) where
  -- what an order adds to the welfare of an island
  gain_in : ℕ → Order → ℕ → ℤ
  gain_in f o q = if first o.zone == f then order_gain o q else pos 0

  one_head : (z : ℕ) → z < m.zones → counts (is_head first) (first z) ≡ pos 1
  one_head z l = cond-true (is_head first (first z)) (pos 1) (pos 0) (eq-eqb (first (first z)) (first z) (heads.own z l))

  spread_gain : (o : Order) (q : ℕ) → o.zone < m.zones → order_gain o q ≡ sum_below m.zones (λ f. counts (is_head first) f *ℤ gain_in f o q)
  unfolding gain_in
  spread_gain o q l =
      let placed = sum_below-place (counts (is_head first)) (first o.zone) (order_gain o q) m.zones (heads.below o.zone l) in
      let once : counts (is_head first) (first o.zone) *ℤ order_gain o q ≡ order_gain o q = ap (λ (c : ℤ). c *ℤ order_gain o q) (one_head o.zone l) ∙ times_one (order_gain o q) in
      sym (placed ∙ once)
    where
      times_one : (x : ℤ) → pos 1 *ℤ x ≡ x
      times_one x = omega (arith, ints)

  own_welfare : (a : Activation) → length a.mw ≡ length m.orders → (f : ℕ) → welfare_of (island_of m first f) (own_of m first f a) ≡ sum_along (gain_in f) m.orders a.mw
  unfolding gain_in
  own_welfare a l f = sum_beside (is_order_in (inside first f)) (order_among (zones_of m first f) (gates_of m first f)) (gain_in f) order_gain (λ o q. Contains m.orders o)
      (λ o q h t. sym (cond-true (first o.zone == f) (order_gain o q) (pos 0) t))
      (λ o q h t. cond-false (first o.zone == f) (order_gain o q) (pos 0) t)
      m.orders a.mw (side_all (Contains m.orders) m.orders a.mw l (All-contains_itself m.orders))

  -- the welfare of the island f
  abbrev pub welfare_in : Activation → ℕ → ℤ
  welfare_in a f = welfare_of (island_of m first f) (own_of m first f a)

  pub welfare_sum : (a : Activation) → length a.mw ≡ length m.orders → welfare_of m a ≡ sum_below m.zones (λ f. counts (is_head first) f *ℤ welfare_in a f)
  welfare_sum a l =
      spread (counts (is_head first)) m.zones order_gain gain_in (λ (o : Order). o.zone < m.zones) spread_gain m.orders a.mw
      (All-weaker (IsValidOrder m.zones (length m.gates)) (λ o. o.zone < m.zones) (λ o h. h.zone) m.orders v.orders)
      ∙ sum_below-same m.zones (λ f. counts (is_head first) f *ℤ sum_along (gain_in f) m.orders a.mw)
      (λ f. counts (is_head first) f *ℤ welfare_in a f) (λ f less. ap (λ (w : ℤ). counts (is_head first) f *ℤ w) (sym (own_welfare a l f)))
