-- The joint market of several quarters: the scheduled runs of all of them as one market, in which the bids of a block
-- share a gate.
--
-- Its zones are those of the first quarter, then those of the second, and so on; its borders likewise. Its orders are
-- bids, by quarter and then in the order of their file, and then demands by quarter.
use Rattle.std.specs.Prelude.{ℕ, ◌+◌, ◌-◌, ◌*◌, ◌==◌, Bool, true, false, List, [], ◌++◌, Option, Some, None, Result, Ok, Err, if◌then◌else◌, ⊤, ◌≡◌, not, ◌&&◌, ◌||◌, filter, is_some, length, map, nat_lt, option_map, position, slice_get, unwrap_or}
use Rattle.std.specs.List.{filter_map, flat_map, list_any, range_with_len}
use Rattle.std.specs.Option.{option_and_then, option_map_or}
use Rattle.mari_units.specs.declared.faults.Refusal.{Refusal}
use Rattle.mari_units.specs.declared.limits.TheConstants.{MOST_BIDS, MOST_BORDERS, MOST_DEMANDS, MOST_GATES, MOST_ZONES}
use Rattle.mari_units.specs.declared.Cents.{Cents}
use Rattle.mari_rows.specs.Names.{listed_once}
use Rattle.mari_bids.specs.Bids.{bid_numbered}
use Rattle.mari_links.specs.Links.{has_gate}
use Rattle.mari_links.specs.declared.links.BidLinks.{BidLinks}
use Rattle.mari_demands.specs.declared.runs.Run.{Run}
use Rattle.mari_market.specs.declared.market.Border.{Border}
use Rattle.mari_market.specs.declared.market.GateInfo.{GateInfo}
use Rattle.mari_market.specs.declared.market.Market.{Market}
use Rattle.mari_market.specs.declared.market.Order.{Order}
use Rattle.mari_remain.specs.Lists.{group_at, parent_at, run_numbered}
use Rattle.mari_remain.specs.RunMarket.{bid_order, demand_order, demands_of_run, market_at, numbers_of}
use Rattle.mari_remain.specs.declared.books.Books.{Books}
use Rattle.mari_blocks.specs.Blocks.{block_at, is_within, quarter_at}
use Rattle.mari_blocks.specs.JointChecks.{refusal_by}
use Rattle.mari_blocks.specs.declared.blocks.BlockBook.{BlockBook}
use Rattle.mari_blocks.specs.declared.checks.JointCheck.TheVariants.{AcrossQuarters, NoScheduled, TooLarge}
use Rattle.mari_blocks.specs.declared.gates.JointGate.{JointGate}
use Rattle.mari_blocks.specs.declared.gates.JointGate.TheVariants.{OfBid, OfBlock}
use Rattle.mari_blocks.specs.declared.checks.JointFault.{JointFault}
use Rattle.mari_blocks.specs.declared.checks.JointFault.TheVariants as fault
use Rattle.mari_blocks.specs.declared.joint.Joint.{Joint}

-- the quarters from the first to the last
abbrev pub quarters_of : (first last : ℕ) → List ℕ
quarters_of first last = range_with_len first (last + 1 - first)

-- a run is the scheduled one of a quarter
abbrev pub is_scheduled : (quarter : ℕ) → Run → Bool
is_scheduled quarter run = (run.quarter == quarter) && not run.direct

-- the number of a quarter's scheduled run, counted from 1, if it has one
abbrev pub scheduled_run_of : List Run → (quarter : ℕ) → Option ℕ
scheduled_run_of runs quarter = option_map (λ place. place + 1) (position (is_scheduled quarter) runs)

-- and where it has one
abbrev pub run_of_quarter : List Run → (quarter : ℕ) → ℕ
run_of_quarter runs quarter = unwrap_or (scheduled_run_of runs quarter) 0

-- the reference price of a quarter's scheduled run
abbrev pub reference_of : Books → (quarter : ℕ) → Cents
reference_of books quarter = (run_numbered books (run_of_quarter books.runs.runs quarter)).reference

-- a number is one of these
abbrev pub is_one_of : List ℕ → ℕ → Bool
is_one_of numbers number = list_any (λ other. other == number) numbers

-- two gates are the same
abbrev pub is_same_gate : JointGate → JointGate → Bool
is_same_gate (OfBlock block) (OfBlock other) = block == other
is_same_gate (OfBid bid) (OfBid other) = bid == other
is_same_gate _ _ = false

-- the place of a gate among these
abbrev pub gate_place : List JointGate → JointGate → Option ℕ
gate_place gates gate = position (is_same_gate gate) gates

-- the gate of a bid that is in this block or in none, and by itself has a gate or not
abbrev pub gate_by : Option ℕ → Bool → (bid : ℕ) → Option JointGate
gate_by (Some block) gated bid = Some (OfBlock block)
gate_by None true bid = Some (OfBid bid)
gate_by None false bid = None

-- each gate once, in order of first appearance: that of a block stands at the block's first bid
abbrev pub gates_once : List JointGate → List JointGate
gates_once gates = listed_once is_same_gate gates

-- what is known of a gate: a bid's own keeps its group and its parent, and that of a block has neither
abbrev pub gate_info : List BidLinks → List JointGate → JointGate → GateInfo
gate_info links gates (OfBlock block) = record { group = None; parent = None }
gate_info links gates (OfBid bid) =
    record { group = group_at links bid; parent = option_and_then (λ parent. gate_place gates (OfBid parent)) (parent_at links bid) }

-- an order, and a border, whose zones are moved on by `zones` places
abbrev pub shifted_order : (zones : ℕ) → Order → Order
shifted_order zones order = record order { zone = zones + order.zone }

abbrev pub shifted_border : (zones : ℕ) → Border → Border
shifted_border zones border = record border { from = zones + border.from; to = zones + border.to }

module _ (books : Books) where
  -- the bids that are available in a quarter's scheduled run, over no blocks of the day
  abbrev pub bids_brought : (quarter : ℕ) → List ℕ
  bids_brought quarter = numbers_of books [] (run_of_quarter books.runs.runs quarter)

  -- the zones of the joint market before those of a quarter
  abbrev pub zones_before : (first quarter : ℕ) → ℕ
  zones_before first quarter = (quarter - first) * length books.zones.zones

  -- the borders of that run, with its limits over no blocks
  abbrev pub borders_brought : (first quarter : ℕ) → List Border
  borders_brought first quarter = map (shifted_border (zones_before first quarter)) (market_at books [] (run_of_quarter books.runs.runs quarter)).borders

  -- the orders of its demands
  abbrev pub demands_brought : (first quarter : ℕ) → List Order
  demands_brought first quarter =
      map (shifted_order (zones_before first quarter)) (map demand_order (demands_of_run books.demands.demands (run_of_quarter books.runs.runs quarter)))

module _ (books : Books) (first last : ℕ) where
  -- of all quarters
  abbrev pub offered : List ℕ
  offered = flat_map (bids_brought books) (quarters_of first last)

  abbrev pub joint_borders : List Border
  joint_borders = flat_map (borders_brought books first) (quarters_of first last)

  abbrev pub joint_demands : List Order
  joint_demands = flat_map (demands_brought books first) (quarters_of first last)

  -- some quarter has no scheduled run
  abbrev pub lacks_run : Bool
  lacks_run = list_any (λ quarter. not (is_some (scheduled_run_of books.runs.runs quarter))) (quarters_of first last)

  -- a bid is of one of the quarters
  abbrev pub is_of_quarters : (bid : ℕ) → Bool
  is_of_quarters bid = is_within first last (quarter_at books.bids bid)

  -- links of other quarters that name such a bid
  abbrev pub names_of_quarters : BidLinks → Bool
  names_of_quarters links = list_any is_of_quarters links.needs || list_any is_of_quarters links.bars || list_any is_of_quarters links.technical

  -- some bid of the quarters has such links
  abbrev pub links_across : Bool
  links_across =
      list_any (λ bid. is_of_quarters bid && option_map_or names_of_quarters (slice_get books.links.links bid) false)
      (range_with_len 0 (length books.links.links))

-- a bid is one of a block's
abbrev pub is_in_block : BlockBook → (block bid : ℕ) → Bool
is_in_block blocks block bid = option_map_or (λ own. own == block) (block_at blocks bid) false

module _ (blocks : BlockBook) (offered : List ℕ) where
  -- where these bids are available, a block with another bid is left out whole
  abbrev pub is_left_out : (block : ℕ) → Bool
  is_left_out block = list_any (λ bid. is_in_block blocks block bid && not (is_one_of offered bid)) (range_with_len 0 (length blocks.block_of))

  -- the available bids but those of a block that is left out
  abbrev pub kept_bids : List ℕ
  kept_bids = filter (λ bid. not (option_map_or is_left_out (block_at blocks bid) false)) offered

-- each block is among these bids whole, or not at all
abbrev pub AreWhole : BlockBook → (numbers : List ℕ) → Type 0
AreWhole blocks numbers =
    (block bid other : ℕ) → block_at blocks bid ≡ Some block → block_at blocks other ≡ Some block → is_one_of numbers bid ≡ is_one_of numbers other

module _ (books : Books) (blocks : BlockBook) where
  -- the gate of a bid: its block's, or its own where it has one in its quarter
  abbrev pub own_gate : (bid : ℕ) → Option JointGate
  own_gate bid = gate_by (block_at blocks bid) (has_gate books.links bid) bid

  -- the gates of these bids
  abbrev pub gates_among : List ℕ → List JointGate
  gates_among numbers = gates_once (filter_map own_gate numbers)

  -- a bid's order among these gates: whole, with a least quantity of at least 1 where it has a gate
  abbrev pub joint_order : (first : ℕ) → List JointGate → (bid : ℕ) → Order
  joint_order first gates bid =
      shifted_order (zones_before books first (quarter_at books.bids bid))
      (bid_order (bid_numbered books.bids.bids bid) (option_and_then (gate_place gates) (own_gate bid)) 0)

module _ (books : Books) (blocks : BlockBook) (first last : ℕ) where
  -- the bids of the joint market, and their gates
  abbrev pub joint_numbers : List ℕ
  joint_numbers = kept_bids blocks (offered books first last)

  abbrev pub joint_gates : List JointGate
  joint_gates = gates_among books blocks joint_numbers

  -- the joint market; its reference is that of the first quarter
  abbrev pub joint_market_of : Market
  joint_market_of = record {
    zones = (last + 1 - first) * length books.zones.zones;
    borders = joint_borders books first last;
    orders = map (joint_order books blocks first joint_gates) joint_numbers ++ joint_demands books first last;
    gates = map (gate_info books.links.links joint_gates) joint_gates;
    reference = reference_of books first;
  }

  -- with the numbers of its bids, and how many demands there are
  abbrev pub joint_of : Joint
  joint_of = record { market = joint_market_of; bids = joint_numbers; demands = length (joint_demands books first last) }

  -- it has more of something than a run's market may have
  abbrev pub is_too_large : Bool
  is_too_large =
      nat_lt MOST_ZONES joint_market_of.zones
      || nat_lt MOST_BORDERS (length (joint_borders books first last))
      || nat_lt MOST_BIDS (length joint_numbers)
      || nat_lt MOST_GATES (length joint_gates)
      || nat_lt MOST_DEMANDS (length (joint_demands books first last))

  -- the joint market, or the refusal by the first of these that is so
  abbrev pub joint_in : Result Joint Refusal
  joint_in =
      if lacks_run books first last then Err (refusal_by NoScheduled) else
      if links_across books first last then Err (refusal_by AcrossQuarters) else
      if is_too_large then Err (refusal_by TooLarge) else Ok joint_of

-- this is the joint market that was to be made, or its refusal, unless out of memory
abbrev pub GivesJoint : Result Joint JointFault → Result Joint Refusal → Type 0
GivesJoint (Ok joint) made = made ≡ Ok joint
GivesJoint (Err (fault.Refused refusal)) made = made ≡ Err refusal
GivesJoint (Err fault.Memory) made = ⊤
