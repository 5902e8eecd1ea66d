-- Values that spread from zone to zone: each zone gets the greatest value of the zones that lead to it.
use Rattle.std.specs.Prelude.{◌≡◌, ◌+◌, ◌-◌, ◌*◌, ◌<◌, ◌≤◌, ℕ, ℤ, Bool, true, false, List, [], ◌∷◌, length, set, slice_index, unsigned_abs}
use Rattle.std.specs.List.{All, AllZip}
use Rattle.mari_units.specs.declared.numbers.TheConstants.{CAP}
use Rattle.mari_market.specs.declared.market.Border.{Border}
use Rattle.mari_market.specs.Along.{LeadsOver, Reaches}
use Rattle.mari_market.specs.declared.along.Along.{Along}

-- no value is above the distance from the least price there may be to the greatest, in cents
abbrev pub most_value : ℕ
most_value = 2 * unsigned_abs CAP

-- each value is at most the greatest height
abbrev pub AreSmall : List ℕ → Type 0
AreSmall values = All (λ v. v ≤ most_value) values

-- how far all values could still rise
abbrev pub room_of : List ℕ → ℕ
room_of [] = 0
room_of (v ∷ vs) = (most_value - v) + room_of vs

-- the second zone's value was raised to that of the first, or was at least that before
abbrev pub IsRaise : (old : List ℕ) (from to : ℕ) (new : List ℕ) → Bool → Type 0
IsRaise old from to new true = (slice_index old to < slice_index old from) × (new ≡ set old to (slice_index old from))
IsRaise old from to new false = (new ≡ old) × (slice_index old from ≤ slice_index old to)

-- the same where it leads there, and else nothing
abbrev pub IsRaiseIf : Bool → (old : List ℕ) (from to : ℕ) (new : List ℕ) → Bool → Type 0
IsRaiseIf true old from to new raised = IsRaise old from to new raised
IsRaiseIf false old from to new raised = (new ≡ old) × (raised ≡ false)

-- values come from others by raising, one after the other, a zone's value to that of a zone that leads to it
pub data Spreads (lead : ℕ → ℕ → Type 0) (old : List ℕ) : List ℕ → Type 0 where
  unchanged : Spreads lead old old
  raised : (vs : List ℕ) (y z : ℕ) → Spreads lead old vs → lead y z → y < length vs → z < length vs → slice_index vs z < slice_index vs y
      → Spreads lead old (set vs z (slice_index vs y))

-- where a border leads, values don't fall
abbrev pub IsClosedOver : Along → List ℕ → Border → ℤ → Type 0
IsClosedOver along vs b f = (y z : ℕ) → LeadsOver along y z b f → slice_index vs y ≤ slice_index vs z

-- over no border a value is left to raise
abbrev pub IsClosed : Along → List ℕ → List Border → List ℤ → Type 0
IsClosed along vs bs fs = AllZip (IsClosedOver along vs) bs fs

-- a zone's value is the own value of a zone that leads to it
pub record HasSource (lead : ℕ → ℕ → Type 0) (own vs : List ℕ) (z : ℕ) : Type 0 where
  pub from : ℕ
  pub there : from < length own
  pub reaches : Reaches lead from z
  pub value : slice_index vs z ≡ slice_index own from

-- each value is at least its own and at least that of each zone that leads there, and is the own value of one of these
pub record IsSpread (lead : ℕ → ℕ → Type 0) (own vs : List ℕ) : Type 0 where
  pub one_each : length vs ≡ length own
  pub above : (z : ℕ) → slice_index own z ≤ slice_index vs z
  pub rises : (y z : ℕ) → lead y z → slice_index vs y ≤ slice_index vs z
  pub source : (z : ℕ) → z < length own → HasSource lead own vs z
