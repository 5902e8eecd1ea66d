-- How islands are found: each zone begins as an island of its own, and what binds zones unites theirs.
use Rattle.std.specs.Prelude.{◌≡◌, ◌⊎◌, ◌==◌, ℕ, ◌<◌, ◌≤◌, List, Option, Some, None, length, if◌then◌else◌, slice_index}
use Rattle.mari_market.specs.declared.market.GateInfo.{GateInfo}
use Rattle.mari_market.specs.declared.market.Market.{Market}
use Rattle.mari_market.specs.declared.market.Order.{Order}
use Rattle.mari_market.specs.Gates.{group_of, parent_of}
use Rattle.mari_islands.specs.Islands.{AreBound, HasGate, InOneIsland}

-- the first zone of a united island, where that was the higher of the two that are united
abbrev pub lowered : (low high first : ℕ) → ℕ
lowered low high first = if first == high then low else first

-- each zone has a zone of its island, none later than it
pub record AreSound (m : Market) (firsts : List ℕ) : Type 0 where
  pub one_each : length firsts ≡ m.zones
  pub together : (z : ℕ) → z < m.zones → InOneIsland m (slice_index firsts z) z
  pub no_later : (z : ℕ) → z < m.zones → slice_index firsts z ≤ z

-- two zones are in what is so far one island
abbrev pub AreUnited : List ℕ → ℕ → ℕ → Type 0
AreUnited firsts y z = slice_index firsts y ≡ slice_index firsts z

-- what was united stays united
abbrev pub StayUnited : (olds news : List ℕ) → Type 0
StayUnited olds news = (y z : ℕ) → y < length olds → z < length olds → AreUnited olds y z → AreUnited news y z

-- for each gate a zone that has an order of it, which stands for the gate
pub record AreHomes (m : Market) (homes : List ℕ) : Type 0 where
  pub one_each : length homes ≡ length m.gates
  pub there : (g : ℕ) → g < length m.gates → HasGate m (slice_index homes g) g

-- what is kept for a group, as one gate more of it, or of none, is looked at: the zone that then stands for it. What was
-- kept stays, and only this gate's own zone is new
pub record KeepsMates (old new : ℕ → Option ℕ) (group : Option ℕ) (home zone : ℕ) : Type 0 where
  pub own : group ≡ None → zone ≡ home
  pub kept : (k : ℕ) → group ≡ Some k → new k ≡ Some zone
  pub stay : (k z : ℕ) → old k ≡ Some z → new k ≡ Some z
  pub others : (k z : ℕ) → new k ≡ Some z → (old k ≡ Some z) ⊎ ((group ≡ Some k) × (z ≡ home))

-- for each gate a zone that has an order of a gate that is bound to it, and for all gates of a group the same one
pub record AreMates (m : Market) (mates : List ℕ) : Type 0 where
  pub one_each : length mates ≡ length m.gates
  pub bound : (g : ℕ) → g < length m.gates → (h : ℕ) × HasGate m (slice_index mates g) h × AreBound m.gates g h
  pub same : (g h k : ℕ) → group_of m.gates g ≡ Some k → group_of m.gates h ≡ Some k → slice_index mates g ≡ slice_index mates h

-- the zone of an order of a gate is united with the one that stands for the gate
abbrev pub UnitesOwn : (homes firsts : List ℕ) → Order → Type 0
UnitesOwn homes firsts o = (g : ℕ) → o.gate ≡ Some g → AreUnited firsts (slice_index homes g) o.zone

-- the zone that stands for a gate is united with those that stand for its group and for its parent
pub record UnitesGate (gates : List GateInfo) (homes mates firsts : List ℕ) (g : ℕ) : Type 0 where
  pub group : AreUnited firsts (slice_index homes g) (slice_index mates g)
  pub parent : (h : ℕ) → parent_of gates g ≡ Some h → AreUnited firsts (slice_index homes g) (slice_index homes h)
