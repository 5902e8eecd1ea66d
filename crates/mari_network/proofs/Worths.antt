-- The worth of what runs: how great it may be, how it rises, and that it is the orders' where nothing stands in.
use Rattle.std.proofs.Common.{◌≡◌, ℕ, suc, ◌*◌, ◌<◌, ◌≤◌, ℤ, pos, negsuc, ◌-ℤ◌, ◌*ℤ◌, neg_ℤ, ◌≤ℤ◌, ◌<ℤ◌, List, [], ◌∷◌, ◌++◌, length, take, ◌^◌, arith, refl, ap, FitsSigned}
use Rattle.std.proofs.lemmas.Int.{ints, clamps}
use Rattle.std.specs.Int.{int_max, w128}
use Rattle.std.specs.List.{All, AllZip}
use Rattle.std.proofs.lemmas.List.Elements.{All-head, All-tail}
use Rattle.mari_market.specs.declared.market.Side.{Side}
use Rattle.mari_market.specs.declared.market.Order.{Order}
use Rattle.mari_market.specs.Bounds.{Span}
use Rattle.mari_market.specs.Sums.{int_at, int_sum, sum_along}
use Rattle.mari_market.proofs.Sums.{sum_along-le}
use Rattle.mari_market.proofs.Ints.{between, mul-neg_z, neg-mul_z}
use Rattle.mari_market.proofs.Wide.{scaled}
use Rattle.mari_network.specs.declared.slots.Slot.{Slot}
use Rattle.mari_network.specs.Orders.{amount_gain, slots_of, CanPut}
use Rattle.mari_network.specs.Slots.{slot_gain, IsSmallSlot, IsWithinSlot}

abbrev best_worth : Slot → ℤ
best_worth s = int_max (neg_ℤ s.price *ℤ s.low) (neg_ℤ s.price *ℤ s.high)

worth_bounded : (slots : List Slot) (xs : List ℤ) → AllZip IsWithinSlot slots xs → sum_along slot_gain slots xs ≤ℤ int_sum best_worth slots
worth_bounded slots xs a = sum_along-le slot_gain best_worth IsWithinSlot
    (λ s x w. omega (arith, ints, between (neg_ℤ s.price) s.low x s.high w.least w.most, neg-mul_z s.price x)) slots xs a

-- a whole number, or 0 where it is negative
abbrev pub nat_of : ℤ → ℕ
nat_of (pos n) = n
nat_of (negsuc n) = 0

nat_rises : (a b : ℤ) → pos 0 ≤ℤ a → a <ℤ b → nat_of a < nat_of b
nat_rises a b l h = grind (arith, ints)

nearer : (bound old new : ℤ) → old <ℤ new → new ≤ℤ bound → nat_of (bound -ℤ new) < nat_of (bound -ℤ old)
nearer bound old new h l = nat_rises (bound -ℤ new) (bound -ℤ old) (omega (arith, ints)) (omega (arith, ints))

-- by how much the worth can rise at most
abbrev pub room_left : List Slot → List ℤ → ℕ
room_left slots xs = nat_of (int_sum best_worth slots -ℤ sum_along slot_gain slots xs)

pub room_falls : (slots : List Slot) (old new : List ℤ) → sum_along slot_gain slots old <ℤ sum_along slot_gain slots new → AllZip IsWithinSlot slots new → room_left slots new < room_left slots old
room_falls slots old new h a = nearer (int_sum best_worth slots) (sum_along slot_gain slots old) (sum_along slot_gain slots new) h (worth_bounded slots new a)

-- ---- how great it may be

near_product : (c x : ℤ) (n : ℕ) → neg_ℤ (pos 20000000) ≤ℤ c → c ≤ℤ pos 20000000 → neg_ℤ (pos n) ≤ℤ x → x ≤ℤ pos n → (c *ℤ x) ≤ℤ pos (20000000 * n)
near_product c x n low high least most =
    let ends = scaled c n 20000000 n low high (omega arith) in
    omega (arith, ints, clamps, between c (neg_ℤ (pos n)) x (pos n) least most, mul-neg_z c (pos n), ends.0, ends.1)

-- an amount of a slot adds no more than its greatest at the greatest price
pub near_gain : (s : Slot) (x : ℤ) (n : ℕ) → IsSmallSlot s → neg_ℤ (pos n) ≤ℤ x → x ≤ℤ pos n → (neg_ℤ (pos (20000000 * n)) ≤ℤ slot_gain s x) × (slot_gain s x ≤ℤ pos (20000000 * n))
near_gain s x n small least most = (
  omega (arith, ints, near_product s.price x n small.cheap small.dear least most),
  omega (arith, ints, near_product (neg_ℤ s.price) x n (omega (arith, ints, small.dear)) (omega (arith, ints, small.cheap)) least most, neg-mul_z s.price x),
)

-- and no more than at the greatest amount of all
pub small_gain : (s : Slot) (x : ℤ) → IsSmallSlot s → IsWithinSlot s x
    → (neg_ℤ (pos (20000000 * 1099511627776)) ≤ℤ slot_gain s x) × (slot_gain s x ≤ℤ pos (20000000 * 1099511627776))
small_gain s x small w = near_gain s x 1099511627776 small (omega (arith, ints, small.low, w.least)) (omega (arith, ints, small.high, w.most))

small_worth : (slots : List Slot) (xs : List ℤ) → All IsSmallSlot slots → AllZip IsWithinSlot slots xs
    → (neg_ℤ (pos (20000000 * 1099511627776 * length slots)) ≤ℤ sum_along slot_gain slots xs) × (sum_along slot_gain slots xs ≤ℤ pos (20000000 * 1099511627776 * length slots))
small_worth (s ∷ ss) (x ∷ xs) small a =
    let one = small_gain s x (All-head IsSmallSlot s ss small) a.0 in
    let rest = small_worth ss xs (All-tail IsSmallSlot s ss small) a.1 in
    (omega (arith, ints, one.0, rest.0), omega (arith, ints, one.1, rest.1))
small_worth _ _ small a = grind arith

-- the worth of what runs fits 128 bits
pub worth_fits : (slots : List Slot) (xs : List ℤ) → All IsSmallSlot slots → AllZip IsWithinSlot slots xs → length slots < 2 ^ 60 → FitsSigned w128 (sum_along slot_gain slots xs)
worth_fits slots xs small a few = let both = small_worth slots xs small a in omega (arith, ints, both.0, both.1, few)

-- ---- where nothing stands in

none_gains : (slots : List Slot) (xs : List ℤ) → ((k : ℕ) → k < length xs → int_at xs k ≡ pos 0) → sum_along slot_gain slots xs ≡ pos 0
none_gains (s ∷ ss) (x ∷ xs) none = omega (arith, ints, ap (λ (y : ℤ). s.price *ℤ y) (none 0 (omega arith)), none_gains ss xs (λ k l. none (suc k) (omega arith)))
none_gains _ _ none = refl

can_near : (side : Side) (x : ℤ) → CanPut side x → (neg_ℤ (pos 99999) ≤ℤ x) × (x ≤ℤ pos 99999)
can_near side x can = grind (arith, ints)

-- the worth is at most that of the orders at the greatest quantity and price
pub worth_small : (os : List Order) (slots : List Slot) (xs : List ℤ) → All IsSmallSlot slots → AllZip (λ (o : Order) (x : ℤ). CanPut o.side x) os (take (length os) xs)
    → ((k : ℕ) → length os ≤ k → k < length xs → int_at xs k ≡ pos 0) → sum_along slot_gain slots xs ≤ℤ pos (20000000 * 99999 * length os)
worth_small [] slots xs small can none = omega (arith, ints, none_gains slots xs (λ k l. none k (omega arith) l))
worth_small (o ∷ os) [] xs small can none = omega (arith, ints)
worth_small (o ∷ os) (s ∷ ss) [] small can none = omega (arith, ints)
worth_small (o ∷ os) (s ∷ ss) (x ∷ xs) small can none =
    let near = can_near o.side x can.0 in
    let one = near_gain s x 99999 (All-head IsSmallSlot s ss small) near.0 near.1 in
    omega (arith, ints, one.1, worth_small os ss xs (All-tail IsSmallSlot s ss small) can.1 (λ k l h. none (suc k) (omega arith) (omega arith)))

-- and it is what the orders add to the welfare
pub worth_is : (spans : Order → Span) (os : List Order) (more : List Slot) (xs : List ℤ) → ((k : ℕ) → length os ≤ k → k < length xs → int_at xs k ≡ pos 0)
    → sum_along slot_gain (slots_of spans os ++ more) xs ≡ sum_along amount_gain os (take (length os) xs)
worth_is spans [] more xs none = none_gains more xs (λ k l. none k (omega arith) l)
worth_is spans (o ∷ os) more [] none = refl
worth_is spans (o ∷ os) more (x ∷ xs) none = omega (arith, ints, worth_is spans os more xs (λ k l h. none (suc k) (omega arith) (omega arith)))
