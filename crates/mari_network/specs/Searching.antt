-- What a search finds.
use Rattle.std.specs.Prelude.{◌≡◌, ◌⊎◌, Bool, false, not, ℕ, ◌<◌, ℤ, neg_ℤ, ◌≤ℤ◌, List, length, count_by}
use Rattle.mari_market.specs.declared.market.Border.{Border}
use Rattle.mari_network.specs.declared.chain.Hop.{Hop}
use Rattle.mari_network.specs.declared.network.Network.{Network as NetworkRecord}
use Rattle.mari_network.specs.declared.search.ChainSearch.{ChainSearch}
use Rattle.mari_network.specs.declared.slots.TheConstants.{BEYOND}
use Rattle.mari_market.specs.Sums.{int_at}
use Rattle.mari_network.specs.declared.slots.Slot.{Slot}
use Rattle.mari_network.specs.Slots.{zone_of, price_of, CanLess}
use Rattle.mari_network.specs.Network.{border_at}
use Rattle.mari_network.specs.Chain.{hop_at, head_of}
use Rattle.mari_network.specs.Spread.{is_marked}
use Rattle.mari_network.specs.Levels.{AreLevels, AreTight}

-- a price for each zone, at least the least of all, and all tight
pub record AreTightPrices (n : NetworkRecord) (xs fs prices : List ℤ) : Type 0 where
  pub one_each : length prices ≡ length n.meeting.now
  pub least : (z : ℕ) → z < length prices → neg_ℤ BEYOND ≤ℤ int_at prices z
  pub tight : AreTight n.slots.now n.borders.now xs fs (int_at prices)

-- a mark and a price for each zone
pub record HasZones (zones : ℕ) (s : ChainSearch) : Type 0 where
  pub marks : length s.marked.items ≡ zones
  pub prices : length s.prices.items ≡ zones

-- no zone is marked
pub record IsFresh (s : ChainSearch) : Type 0 where
  pub none : (z : ℕ) → is_marked s.marked.items z ≡ false
  pub left : s.left ≡ length s.marked.items

-- the zones that are marked have their prices, and the others are counted
pub record HasLevels (n : NetworkRecord) (xs fs : List ℤ) (s : ChainSearch) : Type 0 where
  pub zones : HasZones (length n.meeting.now) s
  pub levels : AreLevels n.slots.now n.borders.now xs fs s.marked.items (int_at s.prices.items)
  pub left : s.left ≡ count_by not s.marked.items

-- no zone of the hops is marked
abbrev pub AreUnmarked : List Bool → List Hop → Type 0
AreUnmarked marked hops = (k : ℕ) → k < length hops → is_marked marked (hop_at hops k).zone ≡ false

-- the zone is that of none of the hops
abbrev pub IsOfNone : List Hop → ℕ → Type 0
IsOfNone hops z = (k : ℕ) → k < length hops → (hop_at hops k).zone ≡ z → ⊥

-- energy moved among the zones of the hops alone: amounts of other zones stay, and flows over their borders, and what
-- may put in less might so before, or is no dearer than a slot of these zones that might
pub record IsMovedAlong (slots : List Slot) (bs : List Border) (hops : List Hop) (xs fs ys gs : List ℤ) : Type 0 where
  pub amounts : (k : ℕ) → IsOfNone hops (zone_of slots k) → int_at ys k ≡ int_at xs k
  pub flows : (i : ℕ) (forth : Bool) → IsOfNone hops (head_of forth (border_at bs i)) → int_at gs i ≡ int_at fs i
  pub less : (k : ℕ) → CanLess slots ys k
      → CanLess slots xs k ⊎ ((j : ℕ) × CanLess slots xs j × (IsOfNone hops (zone_of slots j) → ⊥) × (price_of slots k ≤ℤ price_of slots j))
