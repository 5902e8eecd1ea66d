-- Ladders of plain orders by price, and what their orders gain at a level.
use Rattle.std.specs.Prelude.{◌≡◌, if◌then◌else◌, ℕ, zero, suc, ◌+◌, ◌-◌, ◌*◌, ◌==◌, ◌<◌, ◌≤◌, ℤ, pos, neg_ℤ, ◌+ℤ◌, ◌-ℤ◌, ◌*ℤ◌, ◌≤ℤ◌, ◌<ℤ◌, List, [], ◌∷◌, Option, Some, None, Vec, length, slice_index_or}
use Rattle.std.specs.Int.{int_max}
use Rattle.std.specs.List.{All}
use Rattle.std.specs.declared.alloc.Global.{Global}
use Rattle.mari_units.specs.declared.limits.TheConstants.{MOST_MW}
use Rattle.mari_market.specs.declared.limits.TheConstants.{MOST_ORDERS, MOST_WORTH}
use Rattle.mari_market.specs.declared.market.Side.{Side}
use Rattle.mari_market.specs.declared.market.Side.TheVariants.{Inject, Withdraw}
use Rattle.mari_market.specs.declared.market.Order.{Order}
use Rattle.mari_market.specs.declared.market.Market.{Market}
use Rattle.mari_market.specs.Market.{IsValidOrder}
use Rattle.mari_market.specs.Price.{IsPrice}
use Rattle.mari_market.specs.Rising.{last_below, RisesBy}
use Rattle.mari_market.specs.Sums.{int_sum}
use Rattle.mari_proofs.specs.declared.table.Offer.{Offer}
use Rattle.mari_proofs.specs.declared.table.Rung.{Rung}
use Rattle.mari_proofs.specs.declared.table.DualTable.{DualTable}

-- a price as a ladder of the side has it: negated where energy is taken, so that an order gains below the level
abbrev pub level_of : Side → ℤ → ℤ
level_of Inject p = p
level_of Withdraw p = neg_ℤ p

-- the offer of an order of this gate or of none and of this side on the ladders of a side: none where it has a gate, or
-- is of the other side
abbrev pub offer_by : Option ℕ → Side → Side → Order → Option Offer
offer_by (Some g) side own o = None
offer_by None Inject Withdraw o = None
offer_by None Withdraw Inject o = None
offer_by None Inject Inject o = Some (record { zone = o.zone; price = o.price.0; mw = o.greatest })
offer_by None Withdraw Withdraw o = Some (record { zone = o.zone; price = neg_ℤ o.price.0; mw = o.greatest })

-- the offer of an order on the ladders of a side
abbrev pub offer_of : Side → Order → Option Offer
offer_of side o = offer_by o.gate side o.side o

-- f of an offer, and 0 of none
abbrev pub of_offer : (Offer → ℤ) → Option Offer → ℤ
of_offer f None = pos 0
of_offer f (Some x) = f x

-- f of an order of a gate, and 0 of a plain one
abbrev pub of_gated : (Order → ℤ) → Option ℕ → Order → ℤ
of_gated f None o = pos 0
of_gated f (Some g) o = f o

-- the offers of a side, each once: a sum over them is one over the orders that have such an offer
abbrev pub AreOffersOf : Side → List Order → List Offer → Type 0
AreOffersOf side os xs = (f : Offer → ℤ) → int_sum f xs ≡ int_sum (λ (o : Order). of_offer f (offer_of side o)) os

-- an offer of a zone that is there, with a price and a quantity within their limits
pub record IsOffer (zones : ℕ) (x : Offer) : Type 0 where
  pub zone : x.zone < zones
  pub price : IsPrice x.price
  pub small : x.mw ≤ MOST_MW

-- what an offer gains at a level
abbrev pub gain_at : ℤ → Offer → ℤ
gain_at level x = int_max (pos 0) ((level -ℤ x.price) *ℤ pos x.mw)

-- the same of an offer of the zone, and 0 of any other
abbrev pub zone_gain : ℕ → ℤ → Offer → ℤ
zone_gain z level x = if x.zone == z then gain_at level x else pos 0

-- what is read past the end of a ladder
abbrev pub no_rung : Rung
no_rung = record { price = pos 0; mw = 0; worth = pos 0 }

-- the last rung of a ladder
abbrev pub last_rung : List Rung → Rung
last_rung rs = slice_index_or rs (length rs - 1) no_rung

-- the rung of an offer after those of a ladder
abbrev pub rung_after : Rung → Offer → Rung
rung_after r x = record { price = x.price; mw = r.mw + x.mw; worth = r.worth +ℤ x.price *ℤ pos x.mw }

-- what the orders up to a rung gain at a level
abbrev pub gain_of : ℤ → Rung → ℤ
gain_of level r = level *ℤ pos r.mw -ℤ r.worth

-- what a ladder's orders gain at a level: those up to its last rung below the level gain
abbrev pub gain_from : ℤ → ℤ → List Rung → ℤ
gain_from level before rs = last_below (λ (r : Rung). r.price) (gain_of level) level before rs

-- no rung is dearer than a later one
abbrev pub IsRising : List Rung → Type 0
IsRising rs = RisesBy (λ (r : Rung). r.price) rs

-- no offer is dearer than a later one
abbrev pub AreRising : List Offer → Type 0
AreRising xs = RisesBy (λ (x : Offer). x.price) xs

-- the sums up to a rung are those of at most n orders
pub record IsSmallRung (n : ℕ) (r : Rung) : Type 0 where
  pub mw : r.mw ≤ MOST_MW * n
  pub low : neg_ℤ (pos (MOST_WORTH * n)) ≤ℤ r.worth
  pub high : r.worth ≤ℤ pos (MOST_WORTH * n)

-- the rungs of those of the offers that are of the zone, in their order, the cheapest first
pub record IsLadderOf (z : ℕ) (offers : List Offer) (rungs : List Rung) : Type 0 where
  pub rising : IsRising rungs
  pub small : All (IsSmallRung (length offers)) rungs
  pub cheap : (p : ℤ) → All (λ (x : Offer). x.price ≤ℤ p) offers → All (λ (r : Rung). r.price ≤ℤ p) rungs
  pub whole : (p : ℤ) → All (λ (r : Rung). r.price <ℤ p) rungs → gain_from p (pos 0) rungs ≡ gain_of p (last_rung rungs)
  pub gain : (p : ℤ) → gain_from p (pos 0) rungs ≡ int_sum (zone_gain z p) offers

-- a ladder that can be read
pub record IsLadder (rs : List Rung) : Type 0 where
  pub rising : IsRising rs
  pub small : All (IsSmallRung MOST_ORDERS) rs

-- the rungs of the zone, and none past the last zone
abbrev pub ladder_at : List (Vec Rung Global) → ℕ → List Rung
ladder_at [] z = []
ladder_at (v ∷ vs) zero = v.items
ladder_at (v ∷ vs) (suc z) = ladder_at vs z

-- the sum of f over the numbers below n
abbrev pub sum_below : (ℕ → ℤ) → ℕ → ℤ
sum_below f zero = pos 0
sum_below f (suc n) = sum_below f n +ℤ f n

-- for each zone a ladder; at any levels they gain what the side's plain orders gain
pub record AreLaddersOf (m : Market) (side : Side) (ladders : List (Vec Rung Global)) : Type 0 where
  pub one_each : length ladders ≡ m.zones
  pub each : (z : ℕ) → z < m.zones → IsLadder (ladder_at ladders z)
  pub gain : (levels : ℕ → ℤ) → sum_below (λ z. gain_from (levels z) (pos 0) (ladder_at ladders z)) m.zones
      ≡ int_sum (λ (o : Order). of_offer (λ (x : Offer). gain_at (levels x.zone) x) (offer_of side o)) m.orders

-- the orders of a gate, each once: a sum over them is one over the market's orders of a gate
pub record AreGated (m : Market) (os : List Order) : Type 0 where
  pub few : length os ≤ length m.orders
  pub orders : All (IsValidOrder m.zones (length m.gates)) os
  pub once : (f : Order → ℤ) → int_sum f os ≡ int_sum (λ (o : Order). of_gated f o.gate o) m.orders

-- the table has the ladders of both sides, and the orders of a gate
pub record IsTableOf (m : Market) (t : DualTable) : Type 0 where
  pub injecting : AreLaddersOf m Inject t.injecting.items
  pub withdrawing : AreLaddersOf m Withdraw t.withdrawing.items
  pub gated : AreGated m t.gated.items
