-- Marginal slots: in each zone the dearest that may put in less, and the cheapest that may put in more.
use Rattle.std.specs.Prelude.{◌≡◌, ◌≢◌, ◌⊎◌, Bool, true, false, ℕ, ◌<◌, ◌≤◌, ℤ, ◌≤ℤ◌, ◌<ℤ◌, List, length, slice_index_or, Option, Some, None, MatchOption}
use Rattle.mari_market.specs.Sums.{int_at}
use Rattle.mari_network.specs.declared.slots.Slot.{Slot}
use Rattle.mari_network.specs.declared.chain.Hop.{Hop}
use Rattle.mari_network.specs.declared.margins.Margin.{Margin}
use Rattle.mari_network.specs.declared.margins.Margins.{Margins}
use Rattle.mari_network.specs.declared.network.Network.{Network}
use Rattle.mari_network.specs.declared.margins.Source.{Source}
use Rattle.mari_network.specs.Slots.{slot_at, zone_of, price_of, CanLess, CanMore}
use Rattle.mari_network.specs.declared.network.Rung.{Rung}
use Rattle.mari_network.specs.Network.{rung_at}
use Rattle.mari_network.specs.Chain.{hop_at}
use Rattle.mari_network.specs.Spread.{is_marked}

-- the margin of a zone in which no slot may put in less or more
abbrev pub no_margin : Margin
no_margin = record { dearest = None; cheapest = None }

-- the place of a zone's dearest slot that may put in less
abbrev pub dearest_at : List Margin → ℕ → Option ℕ
dearest_at margins z = (slice_index_or margins z no_margin).dearest

-- the place of a zone's cheapest slot that may put in more
abbrev pub cheapest_at : List Margin → ℕ → Option ℕ
cheapest_at margins z = (slice_index_or margins z no_margin).cheapest

-- there is a slot, and its price is at least this
abbrev pub IsAbove : List Slot → ℤ → Option ℕ → Type 0
IsAbove slots v best = MatchOption best ⊥ (λ i. v ≤ℤ price_of slots i)

-- there is a slot, and its price is at most this
abbrev pub IsBelow : List Slot → ℤ → Option ℕ → Type 0
IsBelow slots v best = MatchOption best ⊥ (λ i. price_of slots i ≤ℤ v)

-- the dearest of the first n slots that are of zone z and may put in less, if there is one
pub record IsDearestIn (slots : List Slot) (xs : List ℤ) (z n : ℕ) (best : Option ℕ) : Type 0 where
  pub one : (i : ℕ) → best ≡ Some i → CanLess slots xs i × (zone_of slots i ≡ z) × (i < n)
  pub all : (k : ℕ) → k < n → CanLess slots xs k → zone_of slots k ≡ z → IsAbove slots (price_of slots k) best

-- the cheapest of the first n slots that are of zone z and may put in more, if there is one
pub record IsCheapestIn (slots : List Slot) (xs : List ℤ) (z n : ℕ) (best : Option ℕ) : Type 0 where
  pub one : (i : ℕ) → best ≡ Some i → CanMore slots xs i × (zone_of slots i ≡ z) × (i < n)
  pub all : (k : ℕ) → k < n → CanMore slots xs k → zone_of slots k ≡ z → IsBelow slots (price_of slots k) best

-- the marginal slots of each zone among the first n slots
pub record AreMargins (slots : List Slot) (xs : List ℤ) (zones n : ℕ) (margins : List Margin) : Type 0 where
  pub long : length margins ≡ zones
  pub dearest : (z : ℕ) → z < zones → IsDearestIn slots xs z n (dearest_at margins z)
  pub cheapest : (z : ℕ) → z < zones → IsCheapestIn slots xs z n (cheapest_at margins z)

-- the slot is one of a zone that is not marked, and no dearer one is
pub record IsDearest (slots : List Slot) (xs : List ℤ) (marked : List Bool) (i : ℕ) : Type 0 where
  pub less : CanLess slots xs i
  pub unmarked : is_marked marked (zone_of slots i) ≡ false
  pub top : (k : ℕ) → CanLess slots xs k → is_marked marked (zone_of slots k) ≡ false → price_of slots k ≤ℤ price_of slots i

-- no slot of a zone that is not marked may put in less
abbrev pub NoneLess : List Slot → List ℤ → List Bool → Type 0
NoneLess slots xs marked = (k : ℕ) → CanLess slots xs k → is_marked marked (zone_of slots k) ≡ false → ⊥

-- no slot of a marked zone that may put in more is cheaper than this
abbrev pub NoneCheaper : List Slot → List ℤ → List Bool → ℤ → Type 0
NoneCheaper slots xs marked limit = (k : ℕ) → CanMore slots xs k → is_marked marked (zone_of slots k) ≡ true → limit ≤ℤ price_of slots k

-- the dearest of the first n zones' dearest slots, of those not marked
pub record IsDearestOf (slots : List Slot) (margins : List Margin) (marked : List Bool) (n : ℕ) (best : Option ℕ) : Type 0 where
  pub one : (i : ℕ) → best ≡ Some i → (z : ℕ) × (z < n) × (is_marked marked z ≡ false) × (dearest_at margins z ≡ Some i)
  pub all : (z i : ℕ) → z < n → is_marked marked z ≡ false → dearest_at margins z ≡ Some i → IsAbove slots (price_of slots i) best

-- the cheapest slot of a hop's zone that may put in more, cheaper than this
pub record IsSource (slots : List Slot) (margins : List Margin) (hops : List Hop) (limit : ℤ) (s : Source) : Type 0 where
  pub there : s.at < length hops
  pub cheapest : cheapest_at margins (hop_at hops s.at).zone ≡ Some s.slot
  pub below : price_of slots s.slot <ℤ limit

-- the dearest of the slots on these rungs of a ladder that may put in less, if there is one
pub record IsDearestRung (slots : List Slot) (xs : List ℤ) (ladder : List Rung) (start end : ℕ) (best : Option ℕ) : Type 0 where
  pub one : (i : ℕ) → best ≡ Some i → CanLess slots xs i × (j : ℕ) × (start ≤ j) × (j < end) × ((rung_at ladder j).place ≡ i)
  pub all : (j : ℕ) → start ≤ j → j < end → CanLess slots xs (rung_at ladder j).place → IsAbove slots (rung_at ladder j).price best

-- the cheapest of the slots on these rungs of a ladder that may put in more, if there is one
pub record IsCheapestRung (slots : List Slot) (xs : List ℤ) (ladder : List Rung) (start end : ℕ) (best : Option ℕ) : Type 0 where
  pub one : (i : ℕ) → best ≡ Some i → CanMore slots xs i × (j : ℕ) × (start ≤ j) × (j < end) × ((rung_at ladder j).place ≡ i)
  pub all : (j : ℕ) → start ≤ j → j < end → CanMore slots xs (rung_at ladder j).place → IsBelow slots (rung_at ladder j).price best

-- the dearest of the first n slots that are of zone z, may put in less and cost at most `top`, if there is one
pub record IsDearestTo (slots : List Slot) (xs : List ℤ) (z n : ℕ) (top : ℤ) (best : Option ℕ) : Type 0 where
  pub one : (i : ℕ) → best ≡ Some i → CanLess slots xs i × (zone_of slots i ≡ z) × (i < n) × (price_of slots i ≤ℤ top)
  pub all : (k : ℕ) → k < n → CanLess slots xs k → zone_of slots k ≡ z → price_of slots k ≤ℤ top → IsAbove slots (price_of slots k) best

-- the cheapest of the first n slots that are of zone z, may put in more and cost at least `least`, if there is one
pub record IsCheapestFrom (slots : List Slot) (xs : List ℤ) (z n : ℕ) (least : ℤ) (best : Option ℕ) : Type 0 where
  pub one : (i : ℕ) → best ≡ Some i → CanMore slots xs i × (zone_of slots i ≡ z) × (i < n) × (least ≤ℤ price_of slots i)
  pub all : (k : ℕ) → k < n → CanMore slots xs k → zone_of slots k ≡ z → least ≤ℤ price_of slots k → IsBelow slots (price_of slots k) best

-- one of the first n slots that is of zone z and may put in less, at least as dear as each of them but one, if there is
-- one
pub record IsDearestBut (slots : List Slot) (xs : List ℤ) (z n other : ℕ) (best : Option ℕ) : Type 0 where
  pub one : (i : ℕ) → best ≡ Some i → CanLess slots xs i × (zone_of slots i ≡ z) × (i < n)
  pub all : (k : ℕ) → k < n → k ≢ other → CanLess slots xs k → zone_of slots k ≡ z → IsAbove slots (price_of slots k) best

-- one of the first n slots that is of zone z and may put in more, at least as cheap as each of them but one, if there is
-- one
pub record IsCheapestBut (slots : List Slot) (xs : List ℤ) (z n other : ℕ) (best : Option ℕ) : Type 0 where
  pub one : (i : ℕ) → best ≡ Some i → CanMore slots xs i × (zone_of slots i ≡ z) × (i < n)
  pub all : (k : ℕ) → k < n → k ≢ other → CanMore slots xs k → zone_of slots k ≡ z → IsBelow slots (price_of slots k) best

-- the dearest of these slots that are of zone z and may put in less, if there is one
pub record IsDearestOfThese (These : ℕ → Type 0) (slots : List Slot) (xs : List ℤ) (z : ℕ) (best : Option ℕ) : Type 0 where
  pub one : (i : ℕ) → best ≡ Some i → CanLess slots xs i × (zone_of slots i ≡ z) × These i
  pub all : (k : ℕ) → These k → CanLess slots xs k → zone_of slots k ≡ z → IsAbove slots (price_of slots k) best

-- the cheapest of these slots that are of zone z and may put in more, if there is one
pub record IsCheapestOfThese (These : ℕ → Type 0) (slots : List Slot) (xs : List ℤ) (z : ℕ) (best : Option ℕ) : Type 0 where
  pub one : (i : ℕ) → best ≡ Some i → CanMore slots xs i × (zone_of slots i ≡ z) × These i
  pub all : (k : ℕ) → These k → CanMore slots xs k → zone_of slots k ≡ z → IsBelow slots (price_of slots k) best

-- the marginal slots of each zone among these slots
pub record AreMarginsOfThese (These : ℕ → Type 0) (slots : List Slot) (xs : List ℤ) (zones : ℕ) (margins : List Margin) : Type 0 where
  pub long : length margins ≡ zones
  pub dearest : (z : ℕ) → z < zones → IsDearestOfThese These slots xs z (dearest_at margins z)
  pub cheapest : (z : ℕ) → z < zones → IsCheapestOfThese These slots xs z (cheapest_at margins z)

-- the dearer of a slot, if it may put in less, and the one before
pub record IsDearestWith (slots : List Slot) (xs : List ℤ) (before : Option ℕ) (slot : ℕ) (after : Option ℕ) : Type 0 where
  pub one : (i : ℕ) → after ≡ Some i → (before ≡ Some i) ⊎ (CanLess slots xs i × (slot ≡ i))
  pub above : CanLess slots xs slot → IsAbove slots (price_of slots slot) after
  pub keeps : (v : ℤ) → IsAbove slots v before → IsAbove slots v after

-- the cheaper of a slot, if it may put in more, and the one before
pub record IsCheapestWith (slots : List Slot) (xs : List ℤ) (before : Option ℕ) (slot : ℕ) (after : Option ℕ) : Type 0 where
  pub one : (i : ℕ) → after ≡ Some i → (before ≡ Some i) ⊎ (CanMore slots xs i × (slot ≡ i))
  pub below : CanMore slots xs slot → IsBelow slots (price_of slots slot) after
  pub keeps : (v : ℤ) → IsBelow slots v before → IsBelow slots v after

-- a zone's marginal slots with one slot more
pub record IsMarginWith (slots : List Slot) (xs : List ℤ) (before : Margin) (slot : ℕ) (after : Margin) : Type 0 where
  pub dearest : IsDearestWith slots xs before.dearest slot after.dearest
  pub cheapest : IsCheapestWith slots xs before.cheapest slot after.cheapest

-- the zone's marginal slots among the first n
pub record IsMarginIn (slots : List Slot) (xs : List ℤ) (z n : ℕ) (m : Margin) : Type 0 where
  pub dearest : IsDearestIn slots xs z n m.dearest
  pub cheapest : IsCheapestIn slots xs z n m.cheapest

-- the marginal slots of each zone of the network
pub record AreMarginsOf (n : Network) (xs : List ℤ) (m : Margins) : Type 0 where
  pub on_ladders : AreMargins n.slots.now xs (length n.meeting.now) n.on_ladders m.on_ladders.items
  pub all : AreMargins n.slots.now xs (length n.meeting.now) (length n.slots.now) m.all.items

-- energy moved from a source to a sink: the source puts in more and the sink less, and no other slot's amount changed
pub record IsMoved (slots : List Slot) (old new : List ℤ) (sink source : ℕ) : Type 0 where
  pub others : (k : ℕ) → k ≢ sink → k ≢ source → int_at new k ≡ int_at old k
  pub less : int_at new sink <ℤ int_at old sink
  pub most : int_at old sink ≤ℤ (slot_at slots sink).high
  pub more : int_at old source <ℤ int_at new source
  pub least : (slot_at slots source).low ≤ℤ int_at old source
