-- The part of a market in some of its zones, as a market of its own, and what an activation is there.
use Rattle.std.specs.Prelude.{ℕ, Bool, ◌&&◌, List, length, filter, map, slice_index}
use Rattle.std.specs.List.{list_any, range_with_len}
use Rattle.std.specs.Option.{option_and_then}
use Rattle.mari_market.specs.declared.activation.Activation.{Activation}
use Rattle.mari_market.specs.declared.market.Border.{Border}
use Rattle.mari_market.specs.declared.market.GateInfo.{GateInfo}
use Rattle.mari_market.specs.declared.market.Market.{Market}
use Rattle.mari_market.specs.declared.market.Order.{Order}
use Rattle.mari_market.specs.Activation.{is_gate}
use Rattle.mari_market.specs.Gates.{group_of, parent_of}
use Rattle.mari_market.specs.Sums.{int_at}
use Rattle.mari_islands.specs.declared.islands.Island.{Island}
use Rattle.mari_islands.specs.Lists.{place_in, place_of, places_from}

-- a border with both ends among these zones, an order of one of them
abbrev pub is_border_in : (ℕ → Bool) → Border → Bool
is_border_in inside b = inside b.from && inside b.to

abbrev pub is_order_in : (ℕ → Bool) → Order → Bool
is_order_in inside o = inside o.zone

-- a border whose ends have their places among these zones as numbers
abbrev pub border_among : List ℕ → Border → Border
border_among zones b = record b { from = place_of zones b.from; to = place_of zones b.to }

-- an order whose zone and gate have their places among these as numbers
abbrev pub order_among : (zones gates : List ℕ) → Order → Order
order_among zones gates o = record o { zone = place_of zones o.zone; gate = option_and_then (place_in gates) o.gate }

-- what is known of a gate, whose parent has its place among these as number
abbrev pub gate_among : List GateInfo → (gates : List ℕ) → ℕ → GateInfo
gate_among infos gates g = record { group = group_of infos g; parent = option_and_then (place_in gates) (parent_of infos g) }

-- whether one of the orders is of the gate
abbrev pub is_gate_of : List Order → ℕ → Bool
is_gate_of orders g = list_any (λ (o : Order). is_gate g o.gate) orders

module _ (m : Market) (inside : ℕ → Bool) where
  -- the zones inside, by their numbers
  abbrev pub zones_in : List ℕ
  zones_in = filter inside (range_with_len 0 m.zones)

  -- the borders with both ends inside
  abbrev pub borders_in : List Border
  borders_in = filter (is_border_in inside) m.borders

  -- the orders of the zones inside
  abbrev pub orders_in : List Order
  orders_in = filter (is_order_in inside) m.orders

  -- the gates that they are of, by their numbers
  abbrev pub gates_in : List ℕ
  gates_in = filter (is_gate_of orders_in) (range_with_len 0 (length m.gates))

  -- these as a market: zones and gates are numbered anew, in order
  abbrev pub market_in : Market
  market_in = record {
    zones = length zones_in;
    borders = map (border_among zones_in) borders_in;
    orders = map (order_among zones_in gates_in) orders_in;
    gates = map (gate_among m.gates gates_in) gates_in;
    reference = m.reference;
  }

  -- with the numbers that they have in the whole, in rising order
  abbrev pub part_of : Island
  part_of = record {
    zones = zones_in;
    borders = places_from (is_border_in inside) 0 m.borders;
    orders = places_from (is_order_in inside) 0 m.orders;
    gates = gates_in;
    market = market_in;
  }

-- what an activation of the whole is in an island
abbrev pub activation_in : Island → Activation → Activation
activation_in island a = record { mw = map (slice_index a.mw) island.orders; flow = map (int_at a.flow) island.borders }
