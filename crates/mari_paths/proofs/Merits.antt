-- What runs by supply curves lies within the slots, and ladders stay where what stands in is added.
use Rattle.std.proofs.Common.{◌≡◌, ℕ, ◌<◌, ◌≤◌, ℤ, pos, ◌+ℤ◌, ◌≤ℤ◌, List, length, take, get_or, arith, ap, sym, ◌∙◌, subst, get_or-take}
use Rattle.std.proofs.lemmas.Int.{ints}
use Rattle.std.specs.List.{All}
use Rattle.mari_market.specs.declared.limits.TheConstants.{MOST_ORDERS}
use Rattle.mari_market.specs.declared.market.Border.{Border}
use Rattle.mari_network.specs.declared.slots.Slot.{Slot}
use Rattle.mari_network.specs.declared.network.Places.{Places}
use Rattle.mari_network.specs.Network.{ArePlaces, AreInOrder}
use Rattle.mari_market.specs.declared.market.Market.{Market}
use Rattle.mari_network.specs.Orders.{AreOrderSlots, IsOrderSlot}
use Rattle.mari_paths.specs.Starts.{AreFilled}
use Rattle.mari_paths.proofs.Starts.{filled_in_order}
use Rattle.mari_network.specs.Slots.{no_slot, slot_at, IsWithinSlot}
use Rattle.mari_network.proofs.Rungs.{ladder_stays}
use Rattle.mari_paths.proofs.Sums.{stands_once, sum_of_ladders}
use Rattle.mari_paths.specs.Merit.{AreLadders, IsOrderRange}

pub least_within : (s : Slot) → IsOrderRange s → IsWithinSlot s s.low
least_within s r = record { least = omega (arith, ints); most = r.in_order }

-- the ladders of places are in order of the prices
pub ladders_there : (zones : ℕ) (slots : List Slot) (bs : List Border) (p : Places)
    → length slots ≤ MOST_ORDERS → All (IsOrderSlot zones) slots → p.on_ladders ≡ length slots → ArePlaces zones slots bs p → AreLadders slots p.ladders.items
ladders_there zones slots bs p few fine on a = record {
  each = λ z v l.
      let ladder = a.ladders z v (omega (arith, a.ladders_long, l)) in
      record {
        few = omega (arith, few, a.few, ladder.rungs.few);
        there = λ k d m. omega (arith, ladder.rungs.there k d m, a.few);
        price = ladder.rungs.price;
        rising = ladder.rising;
        once = stands_once slots p.on_ladders z (get_or p.ladders.items z v).items ladder.rungs.once;
      };
  zone = λ z v l. (a.ladders z v (omega (arith, a.ladders_long, l))).rungs.zone;
  once = sum_of_ladders zones slots bs p (λ k d l. (fine k d l).zone) on a;
}

-- places stay where slots are added after those on ladders
pub places_grow : (zones : ℕ) (before after : List Slot) (bs : List Border) (p : Places) → length before ≤ length after → ((k : ℕ) → k < p.on_ladders → slot_at after k ≡ slot_at before k)
    → AreInOrder p.on_ladders after
    → ArePlaces zones before bs p → ArePlaces zones after bs p
places_grow zones before after bs p long same order a = record {
  ladders_long = a.ladders_long;
  meeting_long = a.meeting_long;
  few = omega (arith, a.few, long);
  stand_ins = order;
  ladders = λ z v l. ladder_stays before after p.on_ladders z (get_or p.ladders.items z v).items (λ k m. ap (λ (s : Slot). s.zone) (same k m))
      (λ k m. ap (λ (s : Slot). s.price) (same k m)) (a.ladders z v l);
  meeting = a.meeting;
}

-- the first slots are those that were there
pub first_slots : (n k : ℕ) (reals slots : List Slot) → take n slots ≡ reals → k < n → slot_at slots k ≡ slot_at reals k
first_slots n k reals slots e l = sym (get_or-take n slots k no_slot l) ∙ ap (λ (ss : List Slot). slot_at ss k) e

-- the places of the orders' slots are those of all slots that are filled
pub started_places : (m : Market) (reals slots : List Slot) (xs : List ℤ) (p : Places) → AreOrderSlots m.zones m.orders reals → take (length m.orders) slots ≡ reals → AreFilled m slots xs
    → p.on_ladders ≡ length m.orders
    → ArePlaces m.zones reals m.borders p → ArePlaces m.zones slots m.borders p
started_places m reals slots xs p fine e filled on a =
    places_grow m.zones reals slots m.borders p (omega (arith, fine.long, filled.long)) (λ k l. first_slots (length m.orders) k reals slots e (omega (arith, l, on)))
    (subst (λ (n : ℕ). AreInOrder n slots) (sym on) (filled_in_order m slots xs filled)) a
