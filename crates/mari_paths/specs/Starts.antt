-- What stands in for what a start leaves out of balance.
use Rattle.std.specs.Prelude.{◌≡◌, ℕ, ◌+◌, ◌<◌, ◌≤◌, ℤ, pos, ◌+ℤ◌, ◌-ℤ◌, neg_ℤ, ◌≤ℤ◌, List, [], ◌∷◌, length, slice_index_or}
use Rattle.std.specs.List.{All, AllZip}
use Rattle.mari_market.specs.declared.market.Border.{Border}
use Rattle.mari_market.specs.declared.market.Market.{Market}
use Rattle.mari_market.specs.declared.market.Order.{Order}
use Rattle.mari_market.specs.Sums.{sum_along, int_at}
use Rattle.mari_market.specs.Activation.{carried_out}
use Rattle.mari_network.specs.declared.slots.Slot.{Slot}
use Rattle.mari_network.specs.Fits.{IsNetworkSlot}
use Rattle.mari_network.specs.Orders.{no_order, stand_in_of, CanPut, IsOrderSlot}
use Rattle.mari_network.specs.Slots.{slot_at, slot_gain, slot_into, zone_of, IsWithinSlot}
use Rattle.mari_units.specs.declared.limits.TheConstants.{MOST_FLOW}

-- bounds of what a start puts in and moves, in MW, so that sums fit: above an order's quantity and a border's flow,
-- `MOST_MW` and `MOST_FLOW`
abbrev pub most_moved : ℕ
most_moved = 200000

-- above what all orders put in, `MOST_ORDERS` of at most `MOST_MW`
abbrev pub most_put_in : ℕ
most_put_in = 500000000

-- above what a zone is short of: that, and a flow at both ends of each of `MOST_BORDERS`
abbrev pub most_short : ℕ
most_short = 700000000

-- and where a flow is counted at one of its ends alone
abbrev pub most_halfway : ℕ
most_halfway = 700200000

-- above what stands in for a zone after each order's slot changed once: `most_short`, and at most `most_moved` for each of
-- `MOST_ORDERS`
abbrev pub most_stood_in : ℕ
most_stood_in = 2000000000

-- the least of a slot is at most its greatest
abbrev pub IsInOrder : Slot → Type 0
IsInOrder s = s.low ≤ℤ s.high

-- at most `most` from 0
pub record IsNear (most : ℕ) (x : ℤ) : Type 0 where
  pub low : neg_ℤ (pos most) ≤ℤ x
  pub high : x ≤ℤ pos most

-- limits that a border of a valid market may have
abbrev pub AreSmallLimits : Border → Type 0
AreSmallLimits b = (b.limit ≤ MOST_FLOW) × (b.back ≤ MOST_FLOW)

-- what stands in for what each zone is short of, from a first zone on
abbrev pub stand_ins : ℕ → List ℤ → List Slot
stand_ins z [] = []
stand_ins z (d ∷ ds) = stand_in_of z d ∷ stand_ins (z + 1) ds

-- what each zone is short of: what borders carry out less what slots put in
pub record AreShort (zones : ℕ) (slots : List Slot) (bs : List Border) (xs fs short : List ℤ) : Type 0 where
  pub long : length short ≡ zones
  pub each : (z : ℕ) → z < zones → int_at short z ≡ sum_along (carried_out z) bs fs -ℤ sum_along (slot_into z) slots xs

-- the order at a place
abbrev pub order_at : Market → ℕ → Order
order_at m k = slice_index_or m.orders k no_order

-- what the amount at a place adds to the welfare, in quarter-cents
abbrev pub gain_at : List Slot → List ℤ → ℕ → ℤ
gain_at slots xs k = slot_gain (slot_at slots k) (int_at xs k)

-- what an order's amount and that of what stands in for its zone add together, in quarter-cents
abbrev pub joint_gain : Market → List Slot → List ℤ → ℕ → ℤ
joint_gain m slots xs k = gain_at slots xs k +ℤ gain_at slots xs (length m.orders + zone_of slots k)

-- a slot between two amounts that an order of this side can put in
pub record FitsOrder (zones : ℕ) (o : Order) (s : Slot) : Type 0 where
  pub fine : IsOrderSlot zones s
  pub low : CanPut o.side s.low
  pub high : CanPut o.side s.high

-- slots of the orders, and then of what stands in for each zone, with amounts within them
pub record AreFilled (m : Market) (slots : List Slot) (xs : List ℤ) : Type 0 where
  pub long : length slots ≡ length m.orders + m.zones
  pub network : All (IsNetworkSlot m.zones) slots
  pub orders : (k : ℕ) → k < length m.orders → FitsOrder m.zones (order_at m k) (slot_at slots k)
  pub stand_ins : (z : ℕ) → z < m.zones → slot_at slots (length m.orders + z) ≡ stand_in_of z (int_at xs (length m.orders + z))
  pub within : AllZip IsWithinSlot slots xs

-- what stands in for each zone puts in at most `most`, or takes that
abbrev pub StandInsNear : ℕ → Market → List ℤ → Type 0
StandInsNear most m xs = (z : ℕ) → z < m.zones → IsNear most (int_at xs (length m.orders + z))

-- each zone puts in what its borders carry out
abbrev pub AreEven : Market → List Slot → (amounts flows : List ℤ) → Type 0
AreEven m slots xs fs = (z : ℕ) → z < m.zones → sum_along (slot_into z) slots xs ≡ sum_along (carried_out z) m.borders fs
