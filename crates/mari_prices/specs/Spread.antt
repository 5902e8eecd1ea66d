-- Values that spread from zone to zone: each zone gets the greatest value of the zones that lead to it.
use Rattle.std.specs.Prelude.{◌≡◌, ◌⊎◌, ◌+◌, ℕ, ◌<◌, ◌≤◌, ℤ, ◌≤ℤ◌, List, [], ◌∷◌, Option, Some, None, length, take, slice_index, slice_index_or}
use Rattle.std.specs.List.{All, AllZip}
use Rattle.mari_units.specs.declared.limits.TheConstants.{MOST_ZONES}
use Rattle.mari_market.specs.declared.market.Border.{Border}
use Rattle.mari_market.specs.declared.along.Along.{Along}
use Rattle.mari_prices.specs.declared.spread.SettledZone.{SettledZone}
use Rattle.mari_market.specs.Along.{LeadsOver, LeadsTo}
use Rattle.mari_market.specs.Sums.{int_at}

-- what is known of a zone
abbrev pub entry_at : List (Option SettledZone) → ℕ → Option SettledZone
entry_at xs z = slice_index_or xs z None

-- a zone that is not settled yet
abbrev pub IsFree : List (Option SettledZone) → ℕ → Type 0
IsFree xs z = (z < length xs) × (entry_at xs z ≡ None)

-- how many zones are not settled yet
abbrev pub free_zones : List (Option SettledZone) → ℕ
free_zones [] = 0
free_zones (None ∷ xs) = free_zones xs + 1
free_zones (Some s ∷ xs) = free_zones xs

-- the zone was settled by its own value
pub record IsByItself (own : ℕ → ℤ) (z : ℕ) (s : SettledZone) : Type 0 where
  pub previous : s.previous ≡ None
  pub value : s.value ≡ own z
  pub depth : s.depth ≡ 1

-- the zone was settled by the value of a zone that leads to it
pub record IsAfter (lead : ℕ → ℕ → Type 0) (xs : List (Option SettledZone)) (z : ℕ) (s : SettledZone) : Type 0 where
  pub before : ℕ
  pub entry : SettledZone
  pub settled : entry_at xs before ≡ Some entry
  pub leads : lead before z
  pub previous : s.previous ≡ Some before
  pub value : s.value ≡ entry.value
  pub depth : s.depth ≡ entry.depth + 1

-- every zone is settled
abbrev pub AllSettled : List (Option SettledZone) → Type 0
AllSettled xs = (z : ℕ) → z < length xs → (s : SettledZone) × (entry_at xs z ≡ Some s)

-- zones are settled from the greatest value down, and each as soon as a settled zone leads to it
pub record IsSpreading (lead : ℕ → ℕ → Type 0) (own : ℕ → ℤ) (xs : List (Option SettledZone)) : Type 0 where
  -- a zone's value is at least its own
  pub above : (z : ℕ) (s : SettledZone) → entry_at xs z ≡ Some s → own z ≤ℤ s.value
  -- and at least that of each zone that leads to it
  pub rises : (y z : ℕ) (s t : SettledZone) → entry_at xs y ≡ Some s → entry_at xs z ≡ Some t → lead y z → s.value ≤ℤ t.value
  -- a zone that leads to a free one has the least value so far
  pub newest : (y z u : ℕ) (s t : SettledZone) → entry_at xs y ≡ Some s → entry_at xs z ≡ Some t → IsFree xs u → lead y u → s.value ≤ℤ t.value
  -- and free zones' own values are no greater
  pub rest : (y u : ℕ) (s : SettledZone) → entry_at xs y ≡ Some s → IsFree xs u → own u ≤ℤ s.value
  pub source : (z : ℕ) (s : SettledZone) → entry_at xs z ≡ Some s → IsByItself own z s ⊎ IsAfter lead xs z s
  -- no chain is longer than the number of settled zones
  pub short : (z : ℕ) (s : SettledZone) → entry_at xs z ≡ Some s → s.depth + free_zones xs ≤ length xs

-- zones were settled so, and every zone is settled
pub record IsSpread (lead : ℕ → ℕ → Type 0) (own : ℕ → ℤ) (xs : List (Option SettledZone)) : Type 0 where
  pub spreading : IsSpreading lead own xs
  pub settled : AllSettled xs

-- a free zone to which a settled one leads, with the entry that it gets
pub record IsLed (lead : ℕ → ℕ → Type 0) (xs : List (Option SettledZone)) (z : ℕ) (s : SettledZone) : Type 0 where
  pub free : IsFree xs z
  pub after : IsAfter lead xs z s

-- no settled zone leads to a free one
abbrev pub NoneLed : (ℕ → ℕ → Type 0) → List (Option SettledZone) → Type 0
NoneLed lead xs = (y z : ℕ) (s : SettledZone) → entry_at xs y ≡ Some s → IsFree xs z → lead y z → ⊥

-- the free zone of the greatest value among the first ones
pub record IsGreatestBefore (n : ℕ) (own : ℕ → ℤ) (xs : List (Option SettledZone)) (z : ℕ) : Type 0 where
  pub free : IsFree xs z
  pub greatest : (u : ℕ) → u < n → IsFree xs u → own u ≤ℤ own z

-- the free zone of the greatest value, with the entry that it gets, where no settled zone leads to a free one
pub record IsStart (lead : ℕ → ℕ → Type 0) (own : ℕ → ℤ) (xs : List (Option SettledZone)) (z : ℕ) (s : SettledZone) : Type 0 where
  pub greatest : IsGreatestBefore (length xs) own xs z
  pub none_led : NoneLed lead xs
  pub first : IsByItself own z s

-- the next zone to settle, with the entry that it gets
abbrev pub IsNext : (ℕ → ℕ → Type 0) → (ℕ → ℤ) → List (Option SettledZone) → ℕ → SettledZone → Type 0
IsNext lead own xs z s = IsLed lead xs z s ⊎ IsStart lead own xs z s

-- each zone's value spreads along the borders
abbrev pub SpreadsAlong : Along → List Border → List ℤ → List ℤ → List (Option SettledZone) → Type 0
SpreadsAlong along bs fs values xs = IsSpread (LeadsTo along bs fs) (int_at values) xs

-- the second zone is free and gets what the first, settled one has
-- `IsAfter` says it of a settled zone and keeps it of all; this is what a step asks of one border.
pub record IsPassed (xs : List (Option SettledZone)) (from to : ℕ) (s : SettledZone) : Type 0 where
  pub free : IsFree xs to
  pub entry : SettledZone
  pub settled : entry_at xs from ≡ Some entry
  pub previous : s.previous ≡ Some from
  pub value : s.value ≡ entry.value
  pub depth : s.depth ≡ entry.depth + 1

-- the first zone is not settled, or the second not free
abbrev pub IsNotPassed : List (Option SettledZone) → ℕ → ℕ → Type 0
IsNotPassed xs from to = (s : SettledZone) → entry_at xs from ≡ Some s → IsFree xs to → ⊥

-- a border leads from a settled zone to a free one, which gets this entry
pub record IsLedOver (along : Along) (xs : List (Option SettledZone)) (b : Border) (f : ℤ) (z : ℕ) (s : SettledZone) : Type 0 where
  pub before : ℕ
  pub leads : LeadsOver along before z b f
  pub passed : IsPassed xs before z s

-- a border does not
abbrev pub NoneOver : Along → List (Option SettledZone) → Border → ℤ → Type 0
NoneOver along xs b f = (y z : ℕ) → LeadsOver along y z b f → IsNotPassed xs y z

-- chains are no longer than a market has zones
abbrev pub AreShort : List (Option SettledZone) → Type 0
AreShort xs = (z : ℕ) (s : SettledZone) → entry_at xs z ≡ Some s → s.depth ≤ MOST_ZONES

-- none of the first zones is free
abbrev pub NoneFreeBefore : ℕ → List (Option SettledZone) → Type 0
NoneFreeBefore n xs = (u : ℕ) → u < n → IsFree xs u → ⊥

-- none of the first borders leads from a settled zone to a free one
abbrev pub NoneOverBefore : Along → List Border → List ℤ → List (Option SettledZone) → ℕ → Type 0
NoneOverBefore along bs fs xs n = AllZip (NoneOver along xs) (take n bs) (take n fs)

-- the zone is no end of the border
pub record IsApart (z : ℕ) (b : Border) : Type 0 where
  pub from : b.from ≡ z → ⊥
  pub to : b.to ≡ z → ⊥

-- each zone's first border: the zone is no end of the borders before it
abbrev pub AreFirstBorders : List Border → ℕ → List ℕ → Type 0
AreFirstBorders bs zones firsts = (z : ℕ) → z < zones → All (IsApart z) (take (slice_index firsts z) bs)
