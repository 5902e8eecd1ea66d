-- Supply curves of zones, and what runs at one price for the whole market.
use Rattle.std.specs.Prelude.{◌≡◌, if◌then◌else◌, ◌⊎◌, ℕ, ◌<◌, ◌≤◌, ℤ, pos, ◌+ℤ◌, neg_ℤ, ◌≤ℤ◌, ◌<ℤ◌, List, Vec, length, slice_index_or}
use Rattle.std.specs.Int.{int_max, int_min}
use Rattle.std.specs.List.{All}
use Rattle.std.specs.declared.alloc.Global.{Global}
use lib.Signed.{lt_z}
use Rattle.mari_market.specs.declared.market.Border.{Border}
use Rattle.mari_market.specs.declared.market.Market.{Market}
use Rattle.mari_market.specs.declared.limits.TheConstants.{MOST_ORDERS}
use Rattle.mari_market.specs.Rising.{last_below, RisesBy}
use Rattle.mari_market.specs.Sums.{int_at, int_sum}
use Rattle.mari_network.specs.declared.network.Rung.{Rung}
use Rattle.mari_network.specs.declared.slots.Slot.{Slot}
use Rattle.mari_network.specs.declared.slots.TheConstants.{BEYOND}
use Rattle.mari_network.specs.Network.{IsRising}
use Rattle.mari_network.specs.Slots.{at_zone, price_of, slot_at, zone_of}
use Rattle.mari_paths.specs.declared.curves.Curve.{Curve}
use Rattle.mari_paths.specs.declared.curves.CurveStep.{CurveStep}
use Rattle.mari_paths.specs.declared.merit.Reach.{Reach}
use Rattle.mari_paths.specs.Starts.{IsNear}
use Rattle.mari_units.specs.declared.limits.TheConstants.{MOST_MW}

-- above what a zone's slots put in, and above how much more than their least, in MW: `MOST_ORDERS` of at most twice
-- `MOST_MW`
abbrev pub most_supplied : ℕ
most_supplied = 1000000000

-- above what borders carry out of a zone, or into it, in MW: `MOST_BORDERS` of at most twice `MOST_FLOW`
abbrev pub most_carried : ℕ
most_carried = 200000000

-- what an order may put in lies between the greatest quantities either way
pub record IsOrderRange (s : Slot) : Type 0 where
  pub low : neg_ℤ (pos MOST_MW) ≤ℤ s.low
  pub in_order : s.low ≤ℤ s.high
  pub high : s.high ≤ℤ pos MOST_MW

-- the rungs of slots that there are, none twice, the cheapest first, no more of them than a market has orders
pub record IsMeritOrder (slots : List Slot) (ladder : List Rung) : Type 0 where
  pub few : length ladder ≤ MOST_ORDERS
  pub there : All (λ (r : Rung). r.place < length slots) ladder
  pub price : All (λ (r : Rung). r.price ≡ price_of slots r.place) ladder
  pub rising : IsRising ladder
  pub once : (i j : ℕ) (d : Rung) → i < length ladder → j < length ladder → (slice_index_or ladder i d).place ≡ (slice_index_or ladder j d).place → i ≡ j

-- each ladder is one, of slots of its own zone, and each slot stands on one, once: a sum over all rungs is one over the
-- slots
pub record AreLadders (slots : List Slot) (ladders : List (Vec Rung Global)) : Type 0 where
  pub each : (z : ℕ) (v : Vec Rung Global) → z < length ladders → IsMeritOrder slots (slice_index_or ladders z v).items
  pub zone : (z : ℕ) (v : Vec Rung Global) → z < length ladders → All (λ (r : Rung). zone_of slots r.place ≡ z) (slice_index_or ladders z v).items
  pub once : (f : Slot → ℤ) → int_sum (λ (v : Vec Rung Global). int_sum (λ (r : Rung). f (slot_at slots r.place)) v.items) ladders ≡ int_sum f slots

-- what a slot puts in at a price, in MW: its greatest where it is cheaper, and else its least
abbrev pub run_at : ℤ → Slot → ℤ
run_at p s = if lt_z s.price p then s.high else s.low

-- what the slots of a ladder put in together where each puts in its least
abbrev pub least_of : List Slot → List Rung → ℤ
least_of slots ladder = int_sum (λ (r : Rung). (slot_at slots r.place).low) ladder

-- and where each puts in its greatest
abbrev pub greatest_of : List Slot → List Rung → ℤ
greatest_of slots ladder = int_sum (λ (r : Rung). (slot_at slots r.place).high) ladder

-- what the slots of a ladder put in together at a price
abbrev pub supply_of : List Slot → List Rung → ℤ → ℤ
supply_of slots ladder p = int_sum (λ (r : Rung). run_at p (slot_at slots r.place)) ladder

-- what all slots put in together at a price
abbrev pub supply_of_all : List Slot → ℤ → ℤ
supply_of_all slots p = int_sum (run_at p) slots

-- no step is dearer than a later one
abbrev pub AreRising : List CurveStep → Type 0
AreRising steps = RisesBy (λ (s : CurveStep). s.price) steps

-- how much more is put in at the last step that costs less than the price, or `before` if there is none
abbrev pub more_below : ℤ → ℤ → List CurveStep → ℤ
more_below p before steps = last_below (λ (s : CurveStep). s.price) (λ (s : CurveStep). s.more) p before steps

-- what a zone puts in at a price, by its supply curve
abbrev pub supplied : ℤ → Curve → ℤ
supplied p c = c.least +ℤ more_below p (pos 0) c.steps.items

-- what all zones put in together at a price
abbrev pub supplied_by_all : List Curve → ℤ → ℤ
supplied_by_all curves p = int_sum (supplied p) curves

-- small numbers, the cheapest step first
pub record IsCurve (c : Curve) : Type 0 where
  pub least : IsNear most_supplied c.least
  pub steps : All (λ (s : CurveStep). IsNear most_supplied s.more) c.steps.items
  pub rising : AreRising c.steps.items

-- the curve says what the slots of the ladder put in
pub record IsCurveOf (slots : List Slot) (ladder : List Rung) (c : Curve) : Type 0 where
  pub least : c.least ≡ least_of slots ladder
  pub supply : (p : ℤ) → supplied p c ≡ supply_of slots ladder p

-- at the price no more is put in than taken, and a cent above it more, between the prices that no order reaches
pub record IsBalancing (supply : ℤ → ℤ) (p : ℤ) : Type 0 where
  pub here : (p ≡ neg_ℤ BEYOND) ⊎ (supply p ≤ℤ pos 0)
  pub above : (p +ℤ pos 1 ≡ BEYOND) ⊎ (pos 0 <ℤ supply (p +ℤ pos 1))

-- the slots of the ladder put in so much together, or as near to it as they can, the cheapest first: one runs whole if
-- it and all that cost no more put in no more than that together, and its least if the cheaper ones put in that already
pub record IsByMerit (slots : List Slot) (ladder : List Rung) (wanted : ℤ) (xs : List ℤ) : Type 0 where
  pub whole : All (λ (r : Rung). supply_of slots ladder (r.price +ℤ pos 1) ≤ℤ wanted → int_at xs r.place ≡ (slot_at slots r.place).high) ladder
  pub least : All (λ (r : Rung). wanted ≤ℤ supply_of slots ladder r.price → int_at xs r.place ≡ (slot_at slots r.place).low) ladder
  pub total : least_of slots ladder ≤ℤ wanted → wanted ≤ℤ greatest_of slots ladder → int_sum (λ (r : Rung). int_at xs r.place) ladder ≡ wanted

-- what borders carry out of a zone and into it is not below 0, and at most `most`
pub record IsReach (most : ℕ) (r : Reach) : Type 0 where
  pub out : (pos 0 ≤ℤ r.out) × (r.out ≤ℤ pos most)
  pub into : (pos 0 ≤ℤ r.into) × (r.into ≤ℤ pos most)

-- what is read past the end of a list of reaches
abbrev pub no_reach : Reach
no_reach = record { out = pos 0; into = pos 0 }

-- the reach at a place
abbrev pub reach_at : List Reach → ℕ → Reach
reach_at reaches z = slice_index_or reaches z no_reach

-- so much more out and into
abbrev pub widened : Reach → ℕ → ℕ → Reach
widened r out into = record { out = r.out +ℤ pos out; into = r.into +ℤ pos into }

-- what a border carries out of a zone at most
abbrev pub out_over : ℕ → Border → ℤ
out_over z b = at_zone z b.from (pos b.limit) +ℤ at_zone z b.to (pos b.back)

-- what it carries into the zone at most
abbrev pub into_over : ℕ → Border → ℤ
into_over z b = at_zone z b.from (pos b.back) +ℤ at_zone z b.to (pos b.limit)

-- what the borders carry out of a zone and into it
pub record IsReachOf (bs : List Border) (z : ℕ) (r : Reach) : Type 0 where
  pub out : r.out ≡ int_sum (out_over z) bs
  pub into : r.into ≡ int_sum (into_over z) bs

-- what a zone would put in, as far as its borders carry that out of it, or into it what it lacks
abbrev pub as_carried : List Border → ℕ → ℤ → ℤ
as_carried bs z x = int_max (neg_ℤ (int_sum (into_over z) bs)) (int_min (int_sum (out_over z) bs) x)

-- the slots of each zone put in what they would at one price at which all balances, as far as borders carry it, the
-- cheapest first; where borders carry all of it, each as at that price
pub record RunsAt (m : Market) (slots : List Slot) (ladders : List (Vec Rung Global)) (xs : List ℤ) (p : ℤ) : Type 0 where
  pub balancing : IsBalancing (supply_of_all slots) p
  pub each : (z : ℕ) (v : Vec Rung Global) → z < m.zones
      → let ladder = (slice_index_or ladders z v).items in IsByMerit slots ladder (as_carried m.borders z (supply_of slots ladder p)) xs
  pub carried : (z : ℕ) (v : Vec Rung Global) → z < m.zones
      → let ladder = (slice_index_or ladders z v).items in as_carried m.borders z (supply_of slots ladder p) ≡ supply_of slots ladder p
      → All (λ (r : Rung). int_at xs r.place ≡ run_at p (slot_at slots r.place)) ladder
