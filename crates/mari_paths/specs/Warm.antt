-- What the nodes of one search start from.
use Rattle.std.specs.Prelude.{◌≡◌, ℕ, ◌<◌, ◌≤◌, false, true, is_some, None, List, length, slice_index_or}
use Rattle.std.specs.List.{All, AllZip, Contains}
use Rattle.mari_market.specs.declared.market.Market.{Market}
use Rattle.mari_market.specs.declared.market.Order.{Order}
use Rattle.mari_market.specs.Activation.{IsWithinLimits}
use Rattle.mari_market.specs.Bounds.{Span, Free, span_of}
use Rattle.mari_market.specs.Sums.{sum_along}
use Rattle.mari_network.specs.Margins.{AreMarginsOfThese}
use Rattle.mari_network.specs.declared.network.Places.{Places}
use Rattle.mari_network.specs.declared.network.Rung.{Rung}
use Rattle.mari_network.specs.Network.{ArePlaces, IsRising}
use Rattle.mari_network.specs.Orders.{slot_of}
use Rattle.mari_network.specs.Slots.{price_of, slot_at, slot_gain, zone_of}
use Rattle.mari_paths.specs.declared.warm.WarmStart.{WarmStart}
use Rattle.mari_paths.specs.declared.warm.Workspace.{Workspace}
use Rattle.mari_paths.specs.Starts.{most_short, order_at, AreEven, AreFilled, StandInsNear}

-- the bounds of an order without a gate, at every prefix
abbrev pub plain_span : Order → Span
plain_span o = span_of (λ gate. Free) None o

-- the place of an order without a gate
abbrev pub IsPlain : Market → ℕ → Type 0
IsPlain m k = (k < length m.orders) × (is_some (order_at m k).gate ≡ false)

-- the places of the orders that have a gate
pub record AreGated (m : Market) (places : List ℕ) : Type 0 where
  pub there : All (λ k. k < length m.orders) places
  pub few : length places ≤ length m.orders
  pub only : All (λ k. is_some (order_at m k).gate ≡ true) places
  pub all : (k : ℕ) → k < length m.orders → is_some (order_at m k).gate ≡ true → Contains places k

-- what runs in a network of the market, in balance, and what it is worth; with the slots that orders without a gate have
-- at every prefix, and their margins
pub record IsWarmStart (m : Market) (w : WarmStart) : Type 0 where
  pub filled : AreFilled m w.slots.items w.amounts.items
  pub limits : AllZip IsWithinLimits m.borders w.flows.items
  pub even : AreEven m w.slots.items w.amounts.items w.flows.items
  pub near : StandInsNear most_short m w.amounts.items
  pub worth : w.worth ≡ sum_along slot_gain w.slots.items w.amounts.items
  pub places : ArePlaces m.zones w.slots.items m.borders w.places
  pub on_ladders : w.places.on_ladders ≡ length m.orders
  pub margins : AreMarginsOfThese (IsPlain m) w.slots.items w.amounts.items m.zones w.plain.items
  pub zones : (k : ℕ) → k < length m.orders → zone_of w.slots.items k ≡ (order_at m k).zone
  pub prices : (k : ℕ) → k < length m.orders → price_of w.slots.items k ≡ (order_at m k).price.0
  pub gated : AreGated m w.gated.items
  pub plain : (k : ℕ) → IsPlain m k → slot_at w.slots.items k ≡ slot_of (plain_span (order_at m k)) (order_at m k)

-- the slots of a warm start
abbrev pub IsWorkspaceOf : WarmStart → Workspace → Type 0
IsWorkspaceOf warm w = w.slots.items ≡ warm.slots.items

-- the ladder of a zone's orders: the price and the place of each, the cheapest first
pub record IsOrderLadder (m : Market) (z : ℕ) (ladder : List Rung) : Type 0 where
  pub there : All (λ r. r.place < length m.orders) ladder
  pub zone : All (λ r. (order_at m r.place).zone ≡ z) ladder
  pub price : All (λ r. r.price ≡ (order_at m r.place).price.0) ladder
  pub all : (k : ℕ) → k < length m.orders → (order_at m k).zone ≡ z → Contains ladder (record { price = (order_at m k).price.0; place = k })
  pub rising : IsRising ladder

-- for each zone the ladder of its orders
pub record AreOrderLadders (m : Market) (p : Places) : Type 0 where
  pub one_each : length p.ladders.items ≡ m.zones
  pub each : (z : ℕ) (v : _) → z < m.zones → IsOrderLadder m z (slice_index_or p.ladders.items z v).items
