-- Zones from which energy can be moved to a first one.
use Rattle.std.specs.Prelude.{◌≡◌, ◌⊎◌, Bool, true, false, not, ℕ, ◌+◌, ◌<◌, ℤ, pos, ◌<ℤ◌, List, length, slice_index_or, count_by}
use Rattle.std.specs.List.{AllZip}
use Rattle.mari_market.specs.declared.market.Border.{Border}
use Rattle.mari_network.specs.declared.chain.Hop.{Hop}
use Rattle.mari_network.specs.Network.{border_at}
use Rattle.mari_network.specs.Chain.{hop_at, tail_of, head_of, room_of, IsTrace, HasRoom}

-- whether a zone is marked
abbrev pub is_marked : List Bool → ℕ → Bool
is_marked marked z = slice_index_or marked z false

-- where energy can come over the border into a marked zone, it comes from a marked one
abbrev pub ClosedOver : List Bool → Border → ℤ → Type 0
ClosedOver marked b f = (forth : Bool) → pos 0 <ℤ room_of forth b f → is_marked marked (head_of forth b) ≡ true → is_marked marked (tail_of forth b) ≡ true

-- so it is over each border: energy comes into marked zones from marked ones alone
abbrev pub AreClosed : List Border → List ℤ → List Bool → Type 0
AreClosed bs fs marked = AllZip (ClosedOver marked) bs fs

-- where energy can come over the border into this zone, it comes from a marked one
abbrev pub MarkedInto : List Bool → ℕ → Border → ℤ → Type 0
MarkedInto marked y b f = (forth : Bool) → pos 0 <ℤ room_of forth b f → head_of forth b ≡ y → is_marked marked (tail_of forth b) ≡ true

-- what is marked stays so
abbrev pub Keeps : List Bool → List Bool → Type 0
Keeps old new = (z : ℕ) → is_marked old z ≡ true → is_marked new z ≡ true

-- the hops are the zones newly marked, the first one first, with a chain from each
pub record IsSpread (bs : List Border) (fs : List ℤ) (old : List Bool) (start : ℕ) (marked : List Bool) (hops : List Hop) : Type 0 where
  pub some : 0 < length hops
  pub first : (hop_at hops 0).zone ≡ start
  pub trace : IsTrace bs hops
  pub room : (k : ℕ) → k < length hops → HasRoom bs fs hops (pos 1) k
  pub ends : (k : ℕ) → 0 < k → k < length hops
      → (is_marked marked (border_at bs (hop_at hops k).border).from ≡ true) × (is_marked marked (border_at bs (hop_at hops k).border).to ≡ true)
  pub zones : (k : ℕ) → k < length hops → (is_marked marked (hop_at hops k).zone ≡ true) × (is_marked old (hop_at hops k).zone ≡ false)
  pub news : (z : ℕ) → is_marked marked z ≡ true → (is_marked old z ≡ true) ⊎ ((k : ℕ) × (k < length hops) × ((hop_at hops k).zone ≡ z))
  pub keeps : Keeps old marked
  pub count : count_by not marked + length hops ≡ count_by not old
  pub long : length marked ≡ length old
