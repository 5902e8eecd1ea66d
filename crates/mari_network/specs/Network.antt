-- Networks: slots and borders between zones, and for each zone its slots by price and the crossings into it.
use Rattle.std.specs.Prelude.{◌≡◌, Bool, true, false, ℕ, zero, suc, ◌+◌, ◌<◌, ◌≤◌, ℤ, pos, ◌+ℤ◌, List, length, slice_index_or}
use Rattle.std.specs.List.{All, Contains}
use Rattle.mari_market.specs.declared.market.Border.{Border}
use Rattle.mari_market.specs.Market.{IsBetween}
use Rattle.mari_market.specs.Rising.{RisesBy}
use Rattle.mari_market.specs.Sums.{int_sum}
use Rattle.mari_network.specs.declared.slots.Slot.{Slot}
use Rattle.mari_network.specs.declared.network.Network.{Network}
use Rattle.mari_network.specs.declared.network.Places.{Places}
use Rattle.mari_network.specs.declared.network.Rung.{Rung}
use Rattle.mari_network.specs.declared.network.Crossing.{Crossing}
use Rattle.mari_network.specs.Slots.{at_zone, price_of, zone_of, IsSmallSlot, IsRunning}

-- what is read past the end of a list of borders: limits of 0 MW
abbrev pub no_border : Border
no_border = record { from = 0; to = 0; limit = 0; back = 0 }

-- the border at a place
abbrev pub border_at : List Border → ℕ → Border
border_at bs i = slice_index_or bs i no_border

-- where energy leaves for the border
abbrev pub tail_of : Bool → Border → ℕ
tail_of true b = b.from
tail_of false b = b.to

-- where it comes in
abbrev pub head_of : Bool → Border → ℕ
head_of true b = b.to
head_of false b = b.from

-- the crossing of a border
abbrev pub crossing_of : List Border → ℕ → Bool → Crossing
crossing_of bs border forth = record { from = tail_of forth (border_at bs border); border = border; forth = forth }

-- the crossing leads over a border into the zone
pub record IsCrossing (bs : List Border) (z : ℕ) (w : Crossing) : Type 0 where
  pub there : w.border < length bs
  pub from : w.from ≡ tail_of w.forth (border_at bs w.border)
  pub to : head_of w.forth (border_at bs w.border) ≡ z

-- the crossings into the zone
pub record AreMeeting (bs : List Border) (z : ℕ) (crossings : List Crossing) : Type 0 where
  pub each : All (IsCrossing bs z) crossings
  pub all : (i : ℕ) (forth : Bool) → i < length bs → head_of forth (border_at bs i) ≡ z → Contains crossings (crossing_of bs i forth)

-- what is read past the end of a ladder
abbrev pub no_rung : Rung
no_rung = record { price = pos 0; place = 0 }

-- the rung at a place of a ladder
abbrev pub rung_at : List Rung → ℕ → Rung
rung_at rungs j = slice_index_or rungs j no_rung

-- the rung of the slot at a place
abbrev pub rung_of : List Slot → ℕ → Rung
rung_of slots k = record { price = price_of slots k; place = k }

-- the sum of f over those of the first n places whose slots are of the zone
abbrev pub sum_of_zone : (ℕ → ℤ) → List Slot → ℕ → ℕ → ℤ
sum_of_zone f slots z zero = pos 0
sum_of_zone f slots z (suc n) = sum_of_zone f slots z n +ℤ at_zone z (zone_of slots n) (f n)

-- the rungs of those of the first n slots that are of the zone, each once: a sum over them is one over those slots
pub record AreRungs (slots : List Slot) (n z : ℕ) (rungs : List Rung) : Type 0 where
  pub few : length rungs ≤ n
  pub there : All (λ r. r.place < n) rungs
  pub zone : All (λ r. zone_of slots r.place ≡ z) rungs
  pub price : All (λ r. r.price ≡ price_of slots r.place) rungs
  pub all : (k : ℕ) → k < n → zone_of slots k ≡ z → Contains rungs (rung_of slots k)
  pub once : (f : ℕ → ℤ) → int_sum (λ (r : Rung). f r.place) rungs ≡ sum_of_zone f slots z n

-- no rung is dearer than a later one
abbrev pub IsRising : List Rung → Type 0
IsRising rungs = RisesBy (λ (r : Rung). r.price) rungs

-- the rungs of those of the first n slots that are of the zone, the cheapest first
pub record IsLadder (slots : List Slot) (n z : ℕ) (ladder : List Rung) : Type 0 where
  pub rungs : AreRungs slots n z ladder
  pub rising : IsRising ladder

-- after the first n slots stands one for each zone, in order of the zones, or none
abbrev pub AreInOrder : ℕ → List Slot → Type 0
AreInOrder n slots = (k : ℕ) → n ≤ k → k < length slots → k ≡ n + zone_of slots k

-- for each of the zones its ladder, and the crossings into it
pub record ArePlaces (zones : ℕ) (slots : List Slot) (bs : List Border) (p : Places) : Type 0 where
  pub ladders_long : length p.ladders.items ≡ zones
  pub meeting_long : length p.meeting.items ≡ zones
  pub few : p.on_ladders ≤ length slots
  pub stand_ins : AreInOrder p.on_ladders slots
  pub ladders : (z : ℕ) (v : _) → z < zones → IsLadder slots p.on_ladders z (slice_index_or p.ladders.items z v).items
  pub meeting : (z : ℕ) (v : _) → z < zones → AreMeeting bs z (slice_index_or p.meeting.items z v).items

-- slots with small numbers and borders, all between the network's zones
pub record IsNetwork (n : Network) : Type 0 where
  pub small : All IsSmallSlot n.slots.now
  pub zones : All (λ (s : Slot). s.zone < length n.meeting.now) n.slots.now
  pub ends : All (IsBetween (length n.meeting.now)) n.borders.now
  pub as_many : length n.ladders.now ≡ length n.meeting.now
  pub few : n.on_ladders ≤ length n.slots.now
  pub stand_ins : AreInOrder n.on_ladders n.slots.now
  pub ladders : (z : ℕ) (v : _) → z < length n.meeting.now → IsLadder n.slots.now n.on_ladders z (slice_index_or n.ladders.now z v).items
  pub meeting : (z : ℕ) (v : _) → z < length n.meeting.now → AreMeeting n.borders.now z (slice_index_or n.meeting.now z v).items

-- amounts and flows within their bounds, with each zone in balance
abbrev pub Runs : Network → (amounts flows : List ℤ) → Type 0
Runs n xs fs = IsRunning (length n.meeting.now) n.slots.now n.borders.now xs fs
