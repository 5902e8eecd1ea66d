-- Prices that no improving chain contradicts.
use Rattle.std.specs.Prelude.{◌≡◌, Bool, true, false, ℕ, ◌<◌, ℤ, pos, neg_ℤ, ◌≤ℤ◌, ◌<ℤ◌, List, length}
use Rattle.std.specs.List.{AllZip}
use Rattle.mari_market.specs.declared.market.Border.{Border}
use Rattle.mari_market.specs.Consistent.{IsConsistentFlow}
use Rattle.mari_network.specs.declared.slots.Slot.{Slot}
use Rattle.mari_network.specs.declared.slots.TheConstants.{BEYOND}
use Rattle.mari_market.specs.Sums.{int_at}
use Rattle.mari_network.specs.Slots.{slot_at, zone_of, price_of, CanLess, CanMore, IsTightSlot}
use Rattle.mari_network.specs.Chain.{tail_of, head_of, room_of}
use Rattle.mari_network.specs.Spread.{is_marked, AreClosed}

-- where energy can come into a marked zone, it comes from one that is no cheaper
abbrev pub OrderedOver : (ℕ → Bool) → (ℕ → ℤ) → Border → ℤ → Type 0
OrderedOver marked p b f = (forth : Bool) → pos 0 <ℤ room_of forth b f → marked (head_of forth b) ≡ true → p (head_of forth b) ≤ℤ p (tail_of forth b)

-- the marked zones have their prices: each at least the least, and no unmarked one has a slot above them that may put
-- in less
pub record AreLevels (slots : List Slot) (bs : List Border) (xs fs : List ℤ) (marked : List Bool) (p : ℕ → ℤ) : Type 0 where
  pub closed : AreClosed bs fs marked
  pub ordered : AllZip (OrderedOver (is_marked marked) p) bs fs
  pub floored : (z : ℕ) → is_marked marked z ≡ true → neg_ℤ BEYOND ≤ℤ p z
  pub sinks : (k : ℕ) → CanLess slots xs k → is_marked marked (zone_of slots k) ≡ true → price_of slots k ≤ℤ p (zone_of slots k)
  pub sources : (k : ℕ) → CanMore slots xs k → is_marked marked (zone_of slots k) ≡ true → p (zone_of slots k) ≤ℤ price_of slots k
  pub later : (z k : ℕ) → is_marked marked z ≡ true → CanLess slots xs k → is_marked marked (zone_of slots k) ≡ false → price_of slots k ≤ℤ p z

-- each slot and each flow is tight
pub record AreTight (slots : List Slot) (bs : List Border) (xs fs : List ℤ) (p : ℕ → ℤ) : Type 0 where
  pub slots_tight : (k : ℕ) → k < length slots → IsTightSlot p (slot_at slots k) (int_at xs k)
  pub flows_tight : AllZip (IsConsistentFlow p) bs fs
