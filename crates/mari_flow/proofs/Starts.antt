-- The plain start: each slot at its least, and what stands in for it.
use Rattle.std.proofs.Common.{◌≡◌, ◌==◌, if◌then◌else◌, ℕ, suc, ℤ, pos, ◌+ℤ◌, neg_ℤ, ◌≤ℤ◌, ◌<◌, List, [], ◌∷◌, ◌++◌, length, arith, refl, sym, ap, subst, get_or}
use Rattle.std.proofs.lemmas.Int.{ints}
use Rattle.std.specs.List.{All, AllZip}
use Rattle.std.proofs.lemmas.List.{length-map, get_or-map}
use Rattle.std.proofs.lemmas.List.Elements.{All-head, All-tail, All-append}
use Rattle.mari_market.specs.declared.market.Border.{Border}
use Rattle.mari_market.specs.Sums.{sum_along}
use Rattle.mari_market.specs.Activation.{carried_out}
use Rattle.mari_network.specs.declared.slots.Slot.{Slot}
use Rattle.mari_network.specs.declared.slots.TheConstants.{BEYOND}
use Rattle.mari_network.specs.Slots.{no_slot, slot_at, slot_into, IsWithinSlot, IsRunning}
use Rattle.mari_network.specs.Orders.{IsStandIn, IsOrderSlot}
use Rattle.mari_network.specs.Fits.{IsNetworkSlot}
use Rattle.mari_flow.specs.Starts.{lows, offsets, stand_in_for, stand_ins_for}
use Rattle.mari_network.proofs.Chains.{if_neg, if_none}
use Rattle.mari_network.proofs.Fits.{network_slots, flows_fit}
use Rattle.mari_network.proofs.Lists.{zip_append, zip_long}
use Rattle.mari_network.proofs.Shortfalls.{sum_along-append}
use Rattle.mari_network.proofs.StandIns.{stands_in}

none_out : (z : ℕ) (b : Border) (f : ℤ) → f ≡ pos 0 → carried_out z b f ≡ pos 0
none_out z b f e = omega (arith, ints, if_none (b.from == z) f e, if_none (b.to == z) f e)

starts_within : (slots : List Slot) → All (λ (s : Slot). s.low ≤ℤ s.high) slots → AllZip IsWithinSlot slots (lows slots)
starts_within [] a = tt
starts_within (s ∷ ss) a =
    let h = All-head (λ (s : Slot). s.low ≤ℤ s.high) s ss a in (record { least = omega (arith, ints); most = h }, starts_within ss (All-tail (λ (s : Slot). s.low ≤ℤ s.high) s ss a))

stand_ins_within : (slots : List Slot) → AllZip IsWithinSlot (stand_ins_for slots) (offsets slots)
stand_ins_within [] = tt
stand_ins_within (s ∷ ss) = ((stands_in s.zone (neg_ℤ s.low)).within, stand_ins_within ss)

starts_balance : (z : ℕ) (slots : List Slot) → (sum_along (slot_into z) slots (lows slots) +ℤ sum_along (slot_into z) (stand_ins_for slots) (offsets slots)) ≡ pos 0
starts_balance z [] = refl
starts_balance z (s ∷ ss) =
    let same = ap (λ (y : ℕ). if y == z then neg_ℤ s.low else pos 0) (stands_in s.zone (neg_ℤ s.low)).zone in
    omega (arith, ints, starts_balance z ss, same, if_neg (s.zone == z) s.low)

lows_long : (slots : List Slot) → length slots ≡ length (lows slots)
lows_long [] = refl
lows_long (s ∷ ss) = ap suc (lows_long ss)

flows_none : (z : ℕ) (bs : List Border) (fs : List ℤ) → ((k : ℕ) → get_or fs k (pos 0) ≡ pos 0) → sum_along (carried_out z) bs fs ≡ pos 0
flows_none z [] fs n = refl
flows_none z (b ∷ bs) [] n = refl
flows_none z (b ∷ bs) (f ∷ fs) n = omega (arith, ints, none_out z b f (n 0), flows_none z bs fs (λ k. n (suc k)))

-- the first amounts are within their bounds, and in balance
pub starts_running : (n : ℕ) (slots : List Slot) (bs : List Border) (fs : List ℤ)
    → All (λ (s : Slot). s.low ≤ℤ s.high) slots → length bs ≡ length fs → ((k : ℕ) → get_or fs k (pos 0) ≡ pos 0)
    → IsRunning n (slots ++ stand_ins_for slots) bs (lows slots ++ offsets slots) fs
starts_running n slots bs fs a e none =
    let all : AllZip IsWithinSlot (slots ++ stand_ins_for slots) (lows slots ++ offsets slots) =
    zip_append IsWithinSlot slots (stand_ins_for slots) (lows slots) (offsets slots) (starts_within slots a) (stand_ins_within slots) in
    record {
      amounts_long = sym (zip_long IsWithinSlot (slots ++ stand_ins_for slots) (lows slots ++ offsets slots) all);
      flows_long = sym e;
      amounts = all;
      flows = flows_fit bs fs e none;
      balance = λ z l. omega (arith, ints, sum_along-append (slot_into z) slots (stand_ins_for slots) (lows slots) (offsets slots) (lows_long slots), starts_balance z slots, flows_none z bs fs none);
    }

-- what stands in is among what may
pub stand_ins_are : (slots : List Slot) → All (IsStandIn BEYOND) (stand_ins_for slots)
stand_ins_are slots = λ k d l.
    let there : k < length slots = omega (arith, length-map slots stand_in_for, l) in
    subst (λ (s : Slot). IsStandIn BEYOND s) (sym (get_or-map stand_in_for slots k no_slot d there)) (stands_in (slot_at slots k).zone (neg_ℤ (slot_at slots k).low)).kind

stand_in_fits : (n : ℕ) (s : Slot) → IsOrderSlot n s → IsNetworkSlot n (stand_in_for s)
stand_in_fits n s f = (stands_in s.zone (neg_ℤ s.low)).network n f.zone (omega (arith, ints, f.in_order, f.high)) (omega (arith, ints, f.low))

-- the orders' slots and what stands in for their least make a network
pub all_slots : (n : ℕ) (slots : List Slot) → All (IsOrderSlot n) slots → All (IsNetworkSlot n) (slots ++ stand_ins_for slots)
all_slots n slots a = All-append (IsNetworkSlot n) slots (stand_ins_for slots) (network_slots n slots a)
    (λ k d l. let there : k < length slots = omega (arith, length-map slots stand_in_for, l) in
    subst (λ (s : Slot). IsNetworkSlot n s) (sym (get_or-map stand_in_for slots k no_slot d there)) (stand_in_fits n (get_or slots k no_slot) (a k no_slot there)))
