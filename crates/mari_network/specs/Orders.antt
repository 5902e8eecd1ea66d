-- Orders as slots, and what stands in for what they leave out of balance.
use Rattle.std.specs.Prelude.{◌≡◌, ◌⊎◌, Bool, true, false, not, ℕ, ◌∷◌, [], List, ℤ, pos, neg_ℤ, ◌*ℤ◌, ◌≤ℤ◌, ◌<◌, length, map, None, ⊤}
use Rattle.std.specs.List.{All, AllZip}
use Rattle.std.specs.Int.{int_max, int_min}
use lib.Signed.{lt_z}
use Rattle.mari_units.specs.declared.Cents.{Cents}
use Rattle.mari_market.specs.declared.market.Side.{Side}
use Rattle.mari_market.specs.declared.market.Side.TheVariants.{Inject, Withdraw}
use Rattle.mari_market.specs.declared.market.Order.{Order}
use Rattle.mari_market.specs.declared.certificate.CutSide.{CutSide}
use Rattle.mari_market.specs.declared.certificate.CutSide.TheVariants.{Out, In}
use Rattle.mari_market.specs.Activation.{put_in}
use Rattle.mari_market.specs.Bounds.{Span}
use Rattle.mari_market.specs.Cut.{least_put, most_put}
use Rattle.mari_network.specs.declared.slots.Slot.{Slot}
use Rattle.mari_network.specs.declared.slots.TheConstants.{BEYOND}
use Rattle.mari_units.specs.declared.numbers.TheConstants.{CAP}
use Rattle.mari_units.specs.declared.limits.TheConstants.{MOST_MW}
use Rattle.mari_units.specs.Prices.{IsPrice}

-- what is read past the end of a list of orders
abbrev pub no_order : Order
no_order = record { zone = 0; side = Inject; price = record { 0 = pos 0 }; least = 0; greatest = 0; gate = None }

-- what an order may put in within its span, in MW, and its price, in cents per MWh
abbrev pub slot_of : Span → Order → Slot
slot_of s o = record { zone = o.zone; price = o.price.0; low = least_put o.side s; high = most_put o.side s }

-- the slots of orders, each within its span
abbrev pub slots_of : (Order → Span) → List Order → List Slot
slots_of spans orders = map (λ o. slot_of (spans o) o) orders

-- what stands in where orders leave a zone out of balance: a slot of the least price that only takes energy, or one of
-- the greatest that only gives it
abbrev pub IsStandIn : ℤ → Slot → Type 0
IsStandIn m s = ((s.price ≡ neg_ℤ m) × (s.high ≡ pos 0)) ⊎ ((s.price ≡ m) × (s.low ≡ pos 0))

-- what gives a zone what it is short of, or takes away what it has too much
abbrev pub stand_in_if : Bool → ℕ → ℤ → Slot
stand_in_if true z d = record { zone = z; price = neg_ℤ BEYOND; low = d; high = pos 0 }
stand_in_if false z d = record { zone = z; price = BEYOND; low = pos 0; high = d }

-- what stands in for a zone that is short of d MW, or has too much where d is below 0
abbrev pub stand_in_of : ℕ → ℤ → Slot
stand_in_of z d = stand_in_if (lt_z d (pos 0)) z d

-- the amounts are what the orders put in
abbrev pub ArePuts : List Order → List ℤ → List ℕ → Type 0
ArePuts [] [] [] = ⊤
ArePuts (o ∷ os) (x ∷ xs) (q ∷ qs) = (x ≡ put_in o.side q) × ArePuts os xs qs
ArePuts [] [] (q ∷ qs) = ⊥
ArePuts [] (x ∷ xs) qs = ⊥
ArePuts (o ∷ os) [] qs = ⊥
ArePuts (o ∷ os) (x ∷ xs) [] = ⊥

-- what an amount of an order, in MW, adds to the welfare, in quarter-cents
abbrev pub amount_gain : Order → ℤ → ℤ
amount_gain o x = neg_ℤ (o.price.0 *ℤ x)

-- the nearest price within the cap, in cents per MWh
abbrev pub capped : ℤ → ℤ
capped p = int_max (neg_ℤ CAP) (int_min CAP p)

-- the same as a price that is stated
abbrev pub capped_cents : ℤ → Cents
capped_cents p = record { 0 = capped p }

-- whether a zone of this price is in the cut: the least prices for a surplus, the greatest for a deficit
abbrev pub is_inside : CutSide → ℤ → Bool
is_inside Out p = not (lt_z (neg_ℤ BEYOND) p)
is_inside In p = not (lt_z p BEYOND)

-- an amount that some quantity of the side puts in
abbrev pub CanPut : Side → ℤ → Type 0
CanPut Inject x = (pos 0 ≤ℤ x) × (x ≤ℤ pos MOST_MW)
CanPut Withdraw x = (neg_ℤ (pos MOST_MW) ≤ℤ x) × (x ≤ℤ pos 0)

-- a slot of an order of one of the zones
pub record IsOrderSlot (zones : ℕ) (s : Slot) : Type 0 where
  pub zone : s.zone < zones
  pub low : neg_ℤ (pos MOST_MW) ≤ℤ s.low
  pub in_order : s.low ≤ℤ s.high
  pub high : s.high ≤ℤ pos MOST_MW
  pub price : IsPrice s.price

-- the slots of orders, of which each can put in the least and the greatest of its slot
pub record AreOrderSlots (zones : ℕ) (orders : List Order) (slots : List Slot) : Type 0 where
  pub long : length slots ≡ length orders
  pub fine : All (IsOrderSlot zones) slots
  pub sides : AllZip (λ (o : Order) (s : Slot). CanPut o.side s.low × CanPut o.side s.high) orders slots
