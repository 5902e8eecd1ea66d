-- The merit order of one side of a zone, as far as orders may run more than their least.
use Rattle.std.specs.Prelude.{◌≡◌, ◌⊎◌, ◌≤◌, ◌<◌, ◌-◌, ◌==◌, ◌&&◌, Bool, true, false, nat_lt, ℕ, pos, ◌<ℤ◌, List, length, map, slice_index_or, None}
use Rattle.std.specs.List.{AllZip, filter, range_with_len}
use Rattle.std.specs.List.Sorted.{IsPermutation}
use Rattle.mari_market.specs.declared.activation.Bounds.{Bounds}
use Rattle.mari_market.specs.declared.market.Market.{Market}
use Rattle.mari_market.specs.declared.market.Order.{Order}
use Rattle.mari_market.specs.declared.market.Side.{Side}
use Rattle.mari_market.specs.declared.market.Side.TheVariants.{Inject, Withdraw}
use Rattle.mari_merit.specs.declared.ladder.Step.{Step}

-- the order of this number, or a withdrawal of nothing where there is none
abbrev pub order_at : List Order → ℕ → Order
order_at orders k = slice_index_or orders k (record { zone = 0; side = Withdraw; price = record { 0 = pos 0 }; least = 0; greatest = 0; gate = None })

-- an order's step: its number, its price, and the room that its bounds leave above its least
abbrev pub step_of : Market → Bounds → ℕ → Step
step_of m b k = record { order = k; price = (order_at m.orders k).price; room = slice_index_or b.greatest k 0 - slice_index_or b.least k 0 }

-- whether an order is on this side
abbrev pub is_on : Side → Order → Bool
is_on side o = same_side side o.side
  where
    same_side : Side → Side → Bool
    same_side Inject Inject = true
    same_side Inject Withdraw = false
    same_side Withdraw Inject = false
    same_side Withdraw Withdraw = true

-- whether a step belongs to the ladder of a zone's side: its order stands there, and there is room
abbrev pub belongs : Market → ℕ → Side → Step → Bool
belongs m zone side s = ((order_at m.orders s.order).zone == zone && is_on side (order_at m.orders s.order)) && nat_lt 0 s.room

-- the steps of the first n orders that belong to it, by their numbers
abbrev pub steps_among : Market → Bounds → ℕ → Side → ℕ → List Step
steps_among m b zone side n = filter (belongs m zone side) (map (step_of m b) (range_with_len 0 n))

-- a step isn't after another: of injections the cheaper comes first, of withdrawals the dearer, and of one price the
-- lower number
abbrev pub IsNotAfter : Side → Step → Step → Type 0
IsNotAfter Inject a b = (a.price.0 <ℤ b.price.0) ⊎ ((a.price.0 ≡ b.price.0) × (a.order ≤ b.order))
IsNotAfter Withdraw a b = (b.price.0 <ℤ a.price.0) ⊎ ((a.price.0 ≡ b.price.0) × (a.order ≤ b.order))

-- no step is after a later one
abbrev pub AreInMeritOrder : Side → List Step → Type 0
AreInMeritOrder side steps = (i j : ℕ) (d : Step) → i ≤ j → j < length steps → IsNotAfter side (slice_index_or steps i d) (slice_index_or steps j d)

-- the ladder of a zone's side: all steps that belong to it, each once and in merit order
pub record IsLadder (m : Market) (b : Bounds) (zone : ℕ) (side : Side) (steps : List Step) : Type 0 where
  pub same : IsPermutation (steps_among m b zone side (length m.orders)) steps
  pub in_order : AreInMeritOrder side steps

-- there are bounds for each order, the least at most the greatest
pub record AreBounds (m : Market) (b : Bounds) : Type 0 where
  pub as_many : length b.least ≡ length m.orders
  pub in_order : AllZip (λ (lo hi : ℕ). lo ≤ hi) b.least b.greatest
