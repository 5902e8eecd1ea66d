-- The merit order of one zone: all orders, the cheapest first, in which each meets a part of the need. The need is what
-- the withdrawals take at most; an injection meets it by running, a withdrawal by standing back.
use Rattle.std.specs.Prelude.{◌≡◌, ◌≤◌, ◌-◌, ◌+◌, if◌then◌else◌, ℕ, ℤ, int_lt, min, List, [], ◌∷◌, map, sum_by}
use Rattle.mari_market.specs.declared.market.Side.{Side}
use Rattle.mari_market.specs.declared.market.Side.TheVariants.{Inject, Withdraw}
use Rattle.mari_market.specs.declared.market.Order.{Order}
use Rattle.mari_market.specs.Price.{IsPrice}
use Rattle.mari_market.specs.Rising.{RisesBy}
use Rattle.mari_market.specs.declared.certificate.Leaf.TheVariants.{Bound}
use Rattle.mari_market.specs.declared.certificate.TreeItem.{TreeItem}
use Rattle.mari_market.specs.declared.certificate.TreeItem.TheVariants.{Leaf}
use Rattle.mari_merit.specs.declared.marginal.Rung.{Rung}

-- an order's rung
abbrev pub rung_of : Order → Rung
rung_of o = record { price = o.price.0; room = o.greatest }

-- what a withdrawal takes at most
abbrev pub withdrawn_by : Side → ℕ → ℕ
withdrawn_by Inject greatest = 0
withdrawn_by Withdraw greatest = greatest

-- what the withdrawals take at most
abbrev pub withdrawn_in : List Order → ℕ
withdrawn_in orders = sum_by (λ (o : Order). withdrawn_by o.side o.greatest) orders

-- no rung is dearer than a later one
abbrev pub IsAscending : List Rung → Type 0
IsAscending rungs = RisesBy (λ (r : Rung). r.price) rungs

-- one of three, as a price c is below the price p, above it, or at it
abbrev pub by_price : ℤ → ℤ → (below above at : ℕ) → ℕ
by_price p c below above at = if int_lt c p then below else (if int_lt p c then above else at)

-- the room of the rungs below a price
abbrev pub room_below : ℤ → List Rung → ℕ
room_below p rungs = sum_by (λ (r : Rung). by_price p r.price r.room 0 0) rungs

-- the room of the rungs at a price
abbrev pub room_at : ℤ → List Rung → ℕ
room_at p rungs = sum_by (λ (r : Rung). by_price p r.price 0 0 r.room) rungs

-- the marginal price of a need: the cheaper rungs meet no more than it, and with those at this price all of it
pub record IsMarginal (rungs : List Rung) (need : ℕ) (p : ℤ) : Type 0 where
  pub price : IsPrice p
  pub cheaper : room_below p rungs ≤ need
  pub met : need ≤ room_below p rungs + room_at p rungs

-- what an order meets of the need at the marginal price p, where `left` MW are left for the orders at that price
abbrev pub met_by : ℤ → ℕ → Order → ℕ
met_by p left o = by_price p o.price.0 o.greatest 0 (min o.greatest left)

-- what is left for the later ones
abbrev pub left_after : ℤ → ℕ → Order → ℕ
left_after p left o = by_price p o.price.0 left left (left - o.greatest)

-- what an order runs that meets `met` MW of the need: an injection runs that, and a withdrawal runs that much less than
-- its greatest
abbrev pub run_by : Side → (greatest met : ℕ) → ℕ
run_by Inject greatest met = met
run_by Withdraw greatest met = greatest - met

-- what each order runs
abbrev pub quantities_at : ℤ → ℕ → List Order → List ℕ
quantities_at p left [] = []
quantities_at p left (o ∷ os) = run_by o.side o.greatest (met_by p left o) ∷ quantities_at p (left_after p left o) os

-- at a marginal price of what the withdrawals take, each order meets its part of it
pub record IsFilled (orders : List Order) (p : ℤ) (mw : List ℕ) : Type 0 where
  pub marginal : IsMarginal (map rung_of orders) (withdrawn_in orders) p
  pub quantities : mw ≡ quantities_at p (withdrawn_in orders - room_below p (map rung_of orders)) orders

-- a certificate tree of one bound with one potential
abbrev pub bound_tree : ℤ → List TreeItem
bound_tree p = Leaf (Bound (record { cents = record { 0 = p } ∷ [] })) ∷ []
