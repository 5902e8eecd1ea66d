-- Slots: what may run in a zone, as an amount of energy put in at a price.
use Rattle.std.specs.Prelude.{◌≡◌, ◌==◌, if◌then◌else◌, ℕ, ◌<◌, ◌^◌, ℤ, pos, ◌*ℤ◌, neg_ℤ, ◌≤ℤ◌, ◌<ℤ◌, List, length, slice_index_or}
use Rattle.std.specs.List.{AllZip}
use Rattle.mari_market.specs.declared.market.Border.{Border}
use Rattle.mari_market.specs.Sums.{sum_along, int_at}
use Rattle.mari_market.specs.Activation.{IsWithinLimits, carried_out}
use Rattle.mari_network.specs.declared.slots.Slot.{Slot}
use Rattle.mari_network.specs.declared.slots.TheConstants.{BEYOND}

-- how far from 0 the bounds of a slot are at most, in MW
abbrev pub most_room : ℕ
most_room = 2 ^ 40

-- what is read past the end of a list of slots
abbrev pub no_slot : Slot
no_slot = record { zone = 0; price = pos 0; low = pos 0; high = pos 0 }

-- the slot at a place
abbrev pub slot_at : List Slot → ℕ → Slot
slot_at slots i = slice_index_or slots i no_slot

-- the zone of the slot at a place
abbrev pub zone_of : List Slot → ℕ → ℕ
zone_of slots k = (slot_at slots k).zone

-- the price of the slot at a place, in cents per MWh
abbrev pub price_of : List Slot → ℕ → ℤ
price_of slots k = (slot_at slots k).price

-- a number counted in one zone alone
abbrev pub at_zone : ℕ → ℕ → ℤ → ℤ
at_zone z y d = if y == z then d else pos 0

-- what a slot puts into a zone
abbrev pub slot_into : ℕ → Slot → ℤ → ℤ
slot_into z s x = at_zone z s.zone x

-- what an amount of a slot, in MW, adds to the welfare, in quarter-cents
abbrev pub slot_gain : Slot → ℤ → ℤ
slot_gain s x = neg_ℤ (s.price *ℤ x)

-- the slot may put in this amount, in MW
pub record IsWithinSlot (s : Slot) (x : ℤ) : Type 0 where
  pub least : s.low ≤ℤ x
  pub most : x ≤ℤ s.high

-- each amount and each flow within its bounds, and each zone in balance
pub record IsRunning (zones : ℕ) (slots : List Slot) (bs : List Border) (xs fs : List ℤ) : Type 0 where
  pub amounts_long : length xs ≡ length slots
  pub flows_long : length fs ≡ length bs
  pub amounts : AllZip IsWithinSlot slots xs
  pub flows : AllZip IsWithinLimits bs fs
  pub balance : (z : ℕ) → z < zones → sum_along (slot_into z) slots xs ≡ sum_along (carried_out z) bs fs

-- a slot that may put in less
abbrev pub CanLess : List Slot → List ℤ → ℕ → Type 0
CanLess slots xs k = (k < length slots) × ((slot_at slots k).low <ℤ int_at xs k)

-- a slot that may put in more
abbrev pub CanMore : List Slot → List ℤ → ℕ → Type 0
CanMore slots xs k = (k < length slots) × (int_at xs k <ℤ (slot_at slots k).high)

-- an amount above its least doesn't lose, and one below its greatest would not gain
-- `IsTightTrade` of `mari_market` says it of an order by its side; a slot's amount has the side in its sign.
pub record IsTightSlot (p : ℕ → ℤ) (s : Slot) (x : ℤ) : Type 0 where
  pub less : s.low <ℤ x → s.price ≤ℤ p s.zone
  pub more : x <ℤ s.high → p s.zone ≤ℤ s.price

-- whole numbers that leave room to add them, and a price that no slot of an order reaches
pub record IsSmallSlot (s : Slot) : Type 0 where
  pub low : neg_ℤ (pos most_room) ≤ℤ s.low
  pub high : s.high ≤ℤ pos most_room
  pub cheap : neg_ℤ BEYOND ≤ℤ s.price
  pub dear : s.price ≤ℤ BEYOND
