-- The islands of a market: parts that nothing joins. Read this file first; `Part` says what an island is as a market of
-- its own, and `Cleared` what it means to clear the islands one by one.
use Rattle.std.specs.Prelude.{◌≡◌, ◌⊎◌, ◌==◌, Any, Bool, ℕ, ◌<◌, ◌≤◌, List, length, Some, filter, map, slice_index}
use Rattle.std.specs.List.{range_with_len}
use Rattle.mari_market.specs.declared.market.Border.{Border}
use Rattle.mari_market.specs.declared.market.GateInfo.{GateInfo}
use Rattle.mari_market.specs.declared.market.Market.{Market}
use Rattle.mari_market.specs.declared.market.Order.{Order}
use Rattle.mari_market.specs.Along.{Reaches}
use Rattle.mari_market.specs.Gates.{group_of, parent_of}
use Rattle.mari_islands.specs.declared.islands.Island.{Island}
use Rattle.mari_islands.specs.Part.{part_of}

-- something may flow over a border, one way or the other
abbrev pub IsUsable : Border → Type 0
IsUsable b = (0 < b.limit) ⊎ (0 < b.back)

-- two gates are bound: they are one, they are in one group, or the second is the first one's parent
pub data AreBound (gates : List GateInfo) (g h : ℕ) : Type 0 where
  same_gate : g ≡ h → AreBound gates g h
  same_group : (k : ℕ) → group_of gates g ≡ Some k → group_of gates h ≡ Some k → AreBound gates g h
  is_parent : parent_of gates g ≡ Some h → AreBound gates g h

-- an order of the zone is of the gate
abbrev pub HasGate : Market → (zone gate : ℕ) → Type 0
HasGate m z g = Any (λ (o : Order). (o.zone ≡ z) × (o.gate ≡ Some g)) m.orders

-- something binds a zone to another: a border over which something may flow goes from the one to the other, or the one
-- and the other have orders of gates that are bound
pub data Binds (m : Market) (y z : ℕ) : Type 0 where
  by_border : Any (λ (b : Border). (b.from ≡ y) × (b.to ≡ z) × IsUsable b) m.borders → Binds m y z
  by_gates : (g h : ℕ) → HasGate m y g → HasGate m z h → AreBound m.gates g h → Binds m y z

-- something binds two zones, whichever to the other
abbrev pub AreJoined : Market → ℕ → ℕ → Type 0
AreJoined m y z = Binds m y z ⊎ Binds m z y

-- two zones are in one island: they are joined, directly or through others
abbrev pub InOneIsland : Market → ℕ → ℕ → Type 0
InOneIsland m y z = Reaches (AreJoined m) y z

-- the first zone of a zone's island
pub record IsFirstZone (m : Market) (first z : ℕ) : Type 0 where
  pub together : InOneIsland m first z
  pub least : (y : ℕ) → InOneIsland m y z → first ≤ y

-- for each zone the first zone of its island
pub record AreFirstZones (m : Market) (firsts : List ℕ) : Type 0 where
  pub one_each : length firsts ≡ m.zones
  pub each : (z : ℕ) → z < m.zones → IsFirstZone m (slice_index firsts z) z

-- whether a zone's island has this first zone
abbrev pub has_first : List ℕ → (first zone : ℕ) → Bool
has_first firsts first z = slice_index firsts z == first

-- the zones that are the first of their islands, in order
abbrev pub first_zones : List ℕ → List ℕ
first_zones firsts = filter (λ z. has_first firsts z z) (range_with_len 0 (length firsts))

-- the islands of a market, by their first zones: each is the part of the market in its zones
pub record AreIslands (m : Market) (islands : List Island) : Type 0 where
  pub firsts : List ℕ
  pub are_firsts : AreFirstZones m firsts
  pub parts : islands ≡ map (λ first. part_of m (has_first firsts first)) (first_zones firsts)
