-- The market of a run, after the blocks that were made before it on the same day.
use Rattle.std.specs.Prelude.{ℕ, ◌-◌, ◌==◌, ℤ, pos, negsuc, neg_ℤ, ◌+ℤ◌, ◌-ℤ◌, int_lt, unsigned_abs, List, ◌++◌, Option, Some, None, if◌then◌else◌, filter, length, map, position, slice_index_or, unwrap_or}
use Rattle.std.specs.List.{range_with_len}
use Rattle.std.specs.Option.{option_and_then}
use Rattle.mari_units.specs.declared.Cents.{Cents}
use Rattle.mari_zones.specs.declared.borders.BorderEnds.{BorderEnds}
use Rattle.mari_bids.specs.Bids.{bid_numbered}
use Rattle.mari_bids.specs.declared.bids.Bid.{Bid}
use Rattle.mari_links.specs.Links.{has_gate}
use Rattle.mari_links.specs.declared.links.BidLinks.{BidLinks}
use Rattle.mari_demands.specs.LimitPairs.{limits_in}
use Rattle.mari_demands.specs.declared.demands.Demand.{Demand}
use Rattle.mari_demands.specs.declared.limits.Limits.{Limits}
use Rattle.mari_market.specs.declared.market.Border.{Border}
use Rattle.mari_market.specs.declared.market.GateInfo.{GateInfo}
use Rattle.mari_market.specs.declared.market.Market.{Market}
use Rattle.mari_market.specs.declared.market.Order.{Order}
use Rattle.mari_market.specs.declared.market.Side.{Side}
use Rattle.mari_market.specs.Sides.{side_of}
use Rattle.mari_remain.specs.declared.books.Books.{Books}
use Rattle.mari_remain.specs.declared.market.RunMarket.{RunMarket}
use Rattle.mari_remain.specs.Available.{Taken, is_available, taken_by}
use Rattle.mari_remain.specs.Blocks.{PastBlock}
use Rattle.mari_remain.specs.Lists.{bids_of_quarter, group_at, parent_at, run_numbered}
use Rattle.mari_units.specs.declared.numbers.TheConstants.{CAP}

-- a bid's gate: its place among the gated bids
abbrev pub gate_of : List ℕ → ℕ → Option ℕ
gate_of gated i = position (λ j. j == i) gated

-- the least quantity of a bid: without a gate it may run anything, and with one at least 1 MW where it runs
abbrev pub least_left : Option ℕ → ℕ → ℕ
least_left None least = 0
least_left (Some gate) least = if least == 0 then 1 else least

-- the greatest quantity: without a gate what earlier blocks left of the offer, and with one the whole offer
abbrev pub greatest_left : Option ℕ → (offer taken : ℕ) → ℕ
greatest_left None offer taken = offer - taken
greatest_left (Some gate) offer taken = offer

-- the order of a bid of which earlier blocks took `taken` MW
abbrev pub bid_order : Bid → Option ℕ → ℕ → Order
bid_order b gate taken = record {
  zone = b.zone;
  side = side_of b.up;
  price = b.price;
  least = least_left gate b.least;
  greatest = greatest_left gate b.greatest taken;
  gate = gate;
}

-- a demand that states no price is met at any within the cap: it takes at the cap, or gives at its negative
abbrev pub inelastic_price : ℤ → Cents
inelastic_price mw = if int_lt mw (pos 0) then record { 0 = neg_ℤ CAP } else record { 0 = CAP }

-- a demand below 0 is an injection of the same size, and any other a withdrawal
abbrev pub demand_side : ℤ → Side
demand_side mw = side_of (int_lt mw (pos 0))

-- the order of a demand
abbrev pub demand_order : Demand → Order
demand_order d = record {
  zone = d.zone;
  side = demand_side d.mw;
  price = unwrap_or d.price (inelastic_price d.mw);
  least = 0;
  greatest = unsigned_abs d.mw;
  gate = None;
}

-- the demands of a run
-- The demands themselves, for the orders; `numbers_of_run` has their numbers, as the code keeps them.
abbrev pub demands_of_run : List Demand → ℕ → List Demand
demands_of_run demands run = filter (λ (d : Demand). d.run == run) demands

-- the border of a number that is there
abbrev pub ends_at : List BorderEnds → ℕ → BorderEnds
ends_at borders k = slice_index_or borders k (record { from = 0; to = 0; limit = 0; back = 0 })

-- the limits that the file of borders states
abbrev pub own_limits : BorderEnds → Limits
own_limits ends = record { limit = ends.limit; back = ends.back }

-- the limits of a border in a run: those that the file of limits states for it, or where there is no such file those of
-- the file of borders
abbrev pub stated_limits : Option (List (List Limits)) → BorderEnds → (run border : ℕ) → Limits
stated_limits None ends run k = own_limits ends
stated_limits (Some table) ends run k = limits_in table run k

abbrev pub run_limits : Books → (run border : ℕ) → Limits
run_limits books run k = stated_limits books.limits (ends_at books.borders.borders k) run k

-- a whole number, or 0 where it is below
abbrev pub at_least_0 : ℤ → ℕ
at_least_0 (pos n) = n
at_least_0 (negsuc n) = 0

-- a border over which `flow` MW flowed before: what is left of its limits, which is nothing where the flow is past them
abbrev pub border_left : BorderEnds → Limits → ℤ → Border
border_left ends limits flow = record {
  from = ends.from;
  to = ends.to;
  limit = at_least_0 (pos limits.limit -ℤ flow);
  back = at_least_0 (pos limits.back +ℤ flow);
}

-- what is known of a bid's gate: its group, and its parent where that is among these gated bids. A parent that was
-- activated before is not among them
abbrev pub gate_at : List BidLinks → List ℕ → ℕ → GateInfo
gate_at links gated i = record { group = group_at links i; parent = option_and_then (gate_of gated) (parent_at links i) }

-- the orders of these bids, where `taken i` MW of bid i were taken before, and then of the demands
abbrev pub orders_of : List Bid → (taken : ℕ → ℕ) → (numbers gated : List ℕ) → List Demand → List Order
orders_of bids taken numbers gated demands = map (λ i. bid_order (bid_numbered bids i) (gate_of gated i) (taken i)) numbers ++ map demand_order demands

-- the gates of the gated bids
abbrev pub gates_of : List BidLinks → List ℕ → List GateInfo
gates_of links gated = map (gate_at links gated) gated

module _ (books : Books) (taken : Taken) (run : ℕ) where
  -- the numbers of the available bids of the run's quarter, in the order of the bid file
  abbrev pub numbers_left : List ℕ
  numbers_left = filter (is_available books taken (run_numbered books run)) (bids_of_quarter books.bids.bids (run_numbered books run).quarter)

  -- and of those with a gate
  abbrev pub gated_left : List ℕ
  gated_left = filter (has_gate books.links) numbers_left

  -- each border with what is left of its limits
  abbrev pub borders_left : List Border
  borders_left =
      map (λ k. border_left (ends_at books.borders.borders k) (run_limits books run k) (taken.flow k)) (range_with_len 0 (length books.borders.borders))

  -- the available bids, then the run's demands, over the borders with what is left of their limits
  abbrev pub market_left : Market
  market_left = record {
    zones = length books.zones.zones;
    borders = borders_left;
    orders = orders_of books.bids.bids taken.mw numbers_left gated_left (demands_of_run books.demands.demands run);
    gates = gates_of books.links.links gated_left;
    reference = (run_numbered books run).reference;
  }

  -- with the numbers of its bids, and how many demands there are
  abbrev pub run_market_left : RunMarket
  run_market_left = record {
    market = market_left;
    bids = numbers_left;
    demands = length (demands_of_run books.demands.demands run);
  }

module _ (books : Books) (blocks : List PastBlock) (run : ℕ) where
  -- what the blocks took, for this run
  abbrev pub taken_before : Taken
  taken_before = taken_by blocks (run_numbered books run).quarter

  -- the market of the run, counted from 1, after these blocks
  abbrev pub market_at : Market
  market_at = market_left books taken_before run

  -- the numbers of its bids
  abbrev pub numbers_of : List ℕ
  numbers_of = numbers_left books taken_before run

  -- with these numbers, and how many demands there are
  abbrev pub run_market_of : RunMarket
  run_market_of = run_market_left books taken_before run
