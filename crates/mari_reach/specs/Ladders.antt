-- Plain orders of a side by zone and price, and the sums over those of a zone that are cheaper than a level.
use Rattle.std.specs.Prelude.{◌≡◌, ◌==◌, ◌&&◌, if◌then◌else◌, ℕ, ◌+◌, ◌*◌, ◌<◌, ◌≤◌, ℤ, pos, neg_ℤ, ◌+ℤ◌, ◌-ℤ◌, ◌*ℤ◌, ◌≤ℤ◌, List, Option, Some, None, length, take, slice_index_or}
use Rattle.std.specs.Int.{int_max, int_min}
use Rattle.std.specs.List.{All}
use lib.Signed.{lt_z}
use Rattle.mari_units.specs.declared.numbers.TheConstants.{CAP}
use Rattle.mari_units.specs.declared.limits.TheConstants.{MOST_MW, MOST_ZONES}
use Rattle.mari_market.specs.declared.limits.TheConstants.{MOST_ORDERS, MOST_WORTH}
use Rattle.mari_market.specs.declared.market.Side.{Side}
use Rattle.mari_market.specs.declared.market.Side.TheVariants.{Inject, Withdraw}
use Rattle.mari_market.specs.declared.market.Order.{Order}
use Rattle.mari_market.specs.declared.market.Market.{Market}
use Rattle.mari_units.specs.declared.numbers.Cents.{Cents}
use Rattle.mari_market.specs.Price.{IsPrice, price_at}
use Rattle.mari_market.specs.Cut.{is_in}
use Rattle.mari_market.specs.Rising.{RisesBy}
use Rattle.mari_market.specs.Sums.{int_at, int_sum}
use Rattle.mari_proofs.specs.Tables.{level_of}
use Rattle.mari_reach.specs.declared.ladders.Ladder.{Ladder}
use Rattle.mari_reach.specs.declared.ladders.Offer.{Offer}
use Rattle.mari_reach.specs.declared.ladders.Sums.{Sums}
use Rattle.mari_reach.specs.declared.levels.Levels.{Levels}

-- a number for a zone and a price: those of an earlier zone come first, and of one zone the cheaper
abbrev pub place_of : ℕ → ℤ → ℤ
place_of z c = pos (z * 20000000) +ℤ c

-- an offer of a zone at a price
abbrev pub offer_at : ℕ → ℤ → ℕ → Offer
offer_at z c mw = record { place = place_of z c; zone = z; price = c; mw = mw }

-- the offer of an order of this gate or of none and of this side on the ladder of a side: none where it has a gate, or is
-- of the other side
abbrev pub offer_by : Option ℕ → Side → Side → Order → Option Offer
offer_by (Some g) side own o = None
offer_by None Inject Withdraw o = None
offer_by None Withdraw Inject o = None
offer_by None Inject Inject o = Some (offer_at o.zone o.price.0 o.greatest)
offer_by None Withdraw Withdraw o = Some (offer_at o.zone (neg_ℤ o.price.0) o.greatest)

-- the offer of an order on the ladder of a side
abbrev pub offer_of : Side → Order → Option Offer
offer_of side o = offer_by o.gate side o.side o

-- f of an offer, and 0 of none
abbrev pub of_offer : (Offer → ℤ) → Option Offer → ℤ
of_offer f None = pos 0
of_offer f (Some x) = f x

-- the offers of a side, each once: a sum over them is one over the orders that have such an offer
abbrev pub AreOffersOf : Side → List Order → List Offer → Type 0
AreOffersOf side os xs = (f : Offer → ℤ) → int_sum f xs ≡ int_sum (λ (o : Order). of_offer f (offer_of side o)) os

-- an offer of a zone that is there, with a price and a quantity within their limits, at its place
pub record IsOffer (zones : ℕ) (x : Offer) : Type 0 where
  pub zone : x.zone < zones
  pub price : IsPrice x.price
  pub small : x.mw ≤ MOST_MW
  pub placed : x.place ≡ place_of x.zone x.price

-- an offer's quantity, and that times its price
abbrev pub mw_of : Offer → ℤ
mw_of x = pos x.mw

abbrev pub worth_of : Offer → ℤ
worth_of x = x.price *ℤ pos x.mw

-- f of an offer that stands before a place, and 0 of any other
abbrev pub before : (Offer → ℤ) → ℤ → Offer → ℤ
before f p x = if lt_z x.place p then f x else pos 0

-- f of an offer of the zone that is cheaper than a level, and 0 of any other
abbrev pub up_to : (Offer → ℤ) → ℕ → ℤ → Offer → ℤ
up_to f z level x = if (x.zone == z) && lt_z x.price level then f x else pos 0

-- the sums over the offers
pub record AreSumsOf (xs : List Offer) (s : Sums) : Type 0 where
  pub mw : s.mw ≡ int_sum mw_of xs
  pub worth : s.worth ≡ int_sum worth_of xs

-- the sums over those before a place
pub record AreSumsBefore (xs : List Offer) (p : ℤ) (s : Sums) : Type 0 where
  pub mw : s.mw ≡ int_sum (before mw_of p) xs
  pub worth : s.worth ≡ int_sum (before worth_of p) xs

-- the sums over those of a zone that are cheaper than a level
pub record AreSumsUpTo (xs : List Offer) (z : ℕ) (level : ℤ) (s : Sums) : Type 0 where
  pub mw : s.mw ≡ int_sum (up_to mw_of z level) xs
  pub worth : s.worth ≡ int_sum (up_to worth_of z level) xs

-- sums that at most as many offers have as there are orders
pub record AreSmall (s : Sums) : Type 0 where
  pub least : pos 0 ≤ℤ s.mw
  pub most : s.mw ≤ℤ pos (MOST_MW * MOST_ORDERS)
  pub low : neg_ℤ (pos (MOST_WORTH * MOST_ORDERS)) ≤ℤ s.worth
  pub high : s.worth ≤ℤ pos (MOST_WORTH * MOST_ORDERS)

-- offers by their place, the sums over the first of them, from none on, and those over the offers of earlier zones
pub record IsLadder (l : Ladder) : Type 0 where
  pub few : length l.offers.items ≤ MOST_ORDERS
  pub few_zones : length l.starts.items ≤ MOST_ZONES
  pub offers : All (IsOffer (length l.starts.items)) l.offers.items
  pub rising : RisesBy (λ (x : Offer). x.place) l.offers.items
  pub long : length l.sums.items ≡ length l.offers.items + 1
  pub sums : (k : ℕ) (d : Sums) → k ≤ length l.offers.items → AreSumsOf (take k l.offers.items) (slice_index_or l.sums.items k d)
  pub starts : (z : ℕ) (d : Sums) → z < length l.starts.items → AreSumsBefore l.offers.items (place_of z (neg_ℤ CAP)) (slice_index_or l.starts.items z d)

-- the ladder is that of a market's plain orders of a side
pub record IsLadderOf (m : Market) (side : Side) (l : Ladder) : Type 0 where
  pub ladder : IsLadder l
  pub one_each : length l.starts.items ≡ m.zones
  pub once : AreOffersOf side m.orders l.offers.items

-- ---- levels

-- a level of prices as the ladder of the side has it, within a cent of the prices that there may be
abbrev pub rung_of : Side → ℤ → ℤ
rung_of Inject level = int_min (CAP +ℤ pos 1) (int_max (neg_ℤ CAP) level)
rung_of Withdraw level = neg_ℤ (int_min CAP (int_max (neg_ℤ (CAP +ℤ pos 1)) level))

-- a side's level in a zone
abbrev pub level_at : Levels → Side → ℕ → ℤ
level_at levels Inject z = int_at levels.injects z
level_at levels Withdraw z = int_at levels.withdraws z

-- what an offer gains at a price
abbrev pub gain_at : ℤ → Offer → ℤ
gain_at p x = (p -ℤ x.price) *ℤ pos x.mw

-- what an offer of a side gains at its zone's potential where it is better than the level there, and else 0
abbrev pub gain_by : Side → Levels → List Cents → Offer → ℤ
gain_by side levels ps x = if lt_z x.price (rung_of side (level_at levels side x.zone)) then gain_at (level_of side (price_at ps x.zone)) x else pos 0

-- ---- cuts

-- the quantity of an offer where the zone is one of the set, and else 0
abbrev pub mw_in : List ℕ → ℕ → Offer → ℤ
mw_in zones z x = if is_in zones z then pos x.mw else pos 0
