-- The slots of a valid market's orders make a network.
use Rattle.std.proofs.Common.{◌≡◌, ℕ, ℤ, ◌≤◌, ◌<◌, pos, neg_ℤ, ◌≤ℤ◌, List, length, get_or, arith, refl, sym, ap, subst, zero, suc, ◌∷◌, map}
use Rattle.std.proofs.lemmas.Int.{ints}
use Rattle.std.proofs.lemmas.List.{length-map, get_or-map}
use lib.ListN.{replicate}
use Rattle.std.specs.List.{All, AllZip}
use Rattle.mari_market.specs.declared.market.Side.{Side}
use Rattle.mari_market.specs.declared.market.Side.TheVariants.{Inject, Withdraw}
use Rattle.mari_market.specs.declared.market.Order.{Order}
use Rattle.mari_market.specs.declared.market.Border.{Border}
use Rattle.mari_market.specs.Activation.{IsWithinLimits}
use Rattle.mari_market.specs.Bounds.{Span}
use Rattle.mari_market.specs.Market.{IsValidOrder}
use Rattle.mari_market.specs.Cut.{least_put, most_put}
use Rattle.mari_network.specs.declared.slots.Slot.{Slot}
use Rattle.mari_network.specs.Slots.{no_slot, IsSmallSlot}
use Rattle.mari_network.specs.Fits.{IsNetworkSlot}
use Rattle.mari_network.specs.Orders.{no_order, slot_of, slots_of, CanPut, IsOrderSlot, AreOrderSlots}
use Rattle.mari_network.proofs.Lists.{zip_of}
use Rattle.mari_market.proofs.Sums.{AllZip-at}

-- a span in order, within the limit of an order
pub record IsFineSpan (s : Span) : Type 0 where
  pub in_order : s.lo ≤ s.hi
  pub small : s.hi ≤ 99999

pub fine_spans : (spans : Order → Span) (os : List Order)
    → AllZip (λ lo hi. (lo ≤ hi) × (hi ≤ 99999)) (map (λ (o : Order). (spans o).lo) os) (map (λ (o : Order). (spans o).hi) os)
    → All (λ (o : Order). IsFineSpan (spans o)) os
fine_spans spans os a = λ k d l.
    let there : k < length (map (λ (o : Order). (spans o).lo) os) = omega (arith, length-map os (λ (o : Order). (spans o).lo), l) in
    let pair = AllZip-at (λ lo hi. (lo ≤ hi) × (hi ≤ 99999)) (map (λ (o : Order). (spans o).lo) os) (map (λ (o : Order). (spans o).hi) os) k 0 0 there a in
    let lo = get_or-map (λ (o : Order). (spans o).lo) os k d 0 l in
    let hi = get_or-map (λ (o : Order). (spans o).hi) os k d 0 l in
    record { in_order = omega (arith, pair.0, lo, hi); small = omega (arith, pair.1, hi) }

puts : (side : Side) (s : Span) → IsFineSpan s → (neg_ℤ (pos 99999) ≤ℤ least_put side s) × (least_put side s ≤ℤ most_put side s) × (most_put side s ≤ℤ pos 99999)
puts Inject s f = (omega (arith, ints, f.in_order, f.small), omega (arith, ints, f.in_order, f.small), omega (arith, ints, f.in_order, f.small))
puts Withdraw s f = (omega (arith, ints, f.in_order, f.small), omega (arith, ints, f.in_order, f.small), omega (arith, ints, f.in_order, f.small))

can_puts : (side : Side) (s : Span) → IsFineSpan s → CanPut side (least_put side s) × CanPut side (most_put side s)
can_puts Inject s f = ((omega (arith, ints), omega (arith, ints, f.in_order, f.small)), (omega (arith, ints), omega (arith, ints, f.small)))
can_puts Withdraw s f = ((omega (arith, ints, f.small), omega (arith, ints)), (omega (arith, ints, f.in_order, f.small), omega (arith, ints)))

order_slot : (spans : Order → Span) (n gates : ℕ) (o : Order) → IsValidOrder n gates o → IsFineSpan (spans o) → IsOrderSlot n (slot_of (spans o) o)
order_slot spans n gates o v f =
    let s = puts o.side (spans o) f in
    record { zone = v.zone; low = s.0; in_order = s.1; high = s.2; price = v.price }

-- the slots of a valid market's orders
pub order_slots_fine : (spans : Order → Span) (n gates : ℕ) (os : List Order) → All (IsValidOrder n gates) os → All (λ (o : Order). IsFineSpan (spans o)) os → AreOrderSlots n os (slots_of spans os)
order_slots_fine spans n gates os v f =
    let long = length-map os (λ (o : Order). slot_of (spans o) o) in
    record {
      long = long;
      fine = λ k d l.
          let there : k < length os = omega (arith, long, l) in
          subst (λ (s : Slot). IsOrderSlot n s) (sym (get_or-map (λ (o : Order). slot_of (spans o) o) os k no_order d there))
          (order_slot spans n gates (get_or os k no_order) (v k no_order there) (f k no_order there));
      sides = zip_of (λ (o : Order) (s : Slot). CanPut o.side s.low × CanPut o.side s.high) os (slots_of spans os) no_order no_slot (sym long)
          (λ k l. subst (λ (s : Slot). CanPut (get_or os k no_order).side s.low × CanPut (get_or os k no_order).side s.high)
          (sym (get_or-map (λ (o : Order). slot_of (spans o) o) os k no_order no_slot l))
          (can_puts (get_or os k no_order).side (spans (get_or os k no_order)) (f k no_order l)));
    }

pub slot_small : (s : Slot) (n : ℕ) → IsOrderSlot n s → IsSmallSlot s
slot_small s n f = record { low = omega (arith, ints, f.low); high = omega (arith, ints, f.high); cheap = omega (arith, ints, f.price.low); dear = omega (arith, ints, f.price.high) }

pub slots_ordered : (n : ℕ) (slots : List Slot) → All (IsOrderSlot n) slots → All (λ (s : Slot). s.low ≤ℤ s.high) slots
slots_ordered n slots a = λ k d l. (a k d l).in_order

-- the orders' slots in a network
pub network_slots : (n : ℕ) (slots : List Slot) → All (IsOrderSlot n) slots → All (IsNetworkSlot n) slots
network_slots n slots a = λ k d l. record { zone = (a k d l).zone; small = slot_small (get_or slots k d) n (a k d l) }

pub zeros_at : (n k : ℕ) → get_or (replicate n (pos 0)) k (pos 0) ≡ pos 0
zeros_at (suc n) (suc k) = zeros_at n k
zeros_at _ _ = refl

pub zeros_long : (n : ℕ) → length (replicate n (pos 0)) ≡ n
zeros_long zero = refl
zeros_long (suc n) = ap suc (zeros_long n)

-- flows of none
pub flows_fit : (bs : List Border) (fs : List ℤ) → length bs ≡ length fs → ((k : ℕ) → get_or fs k (pos 0) ≡ pos 0) → AllZip IsWithinLimits bs fs
flows_fit (b ∷ bs) (f ∷ fs) e n = (record { back = omega (arith, ints, n 0); limit = omega (arith, ints, n 0) }, flows_fit bs fs (omega arith) (λ k. n (suc k)))
flows_fit _ _ e n = grind arith
