-- The joint market is valid where it is not too large.
use Rattle.std.proofs.Common.{◌≡◌, ◌∙◌, ◌+◌, ◌-◌, ◌*◌, ◌<◌, ◌≤◌, ◌==◌, ℕ, false, List, [], Option, Some, None, get_or, length, length-append, map, refl, sym, ap, arith}
use Rattle.std.specs.Prelude.{◌||◌, nat_lt}
use Rattle.std.specs.List.{All}
use Rattle.std.specs.Option.{option_and_then}
use Rattle.std.proofs.lemmas.Bool.{or_parts}
use Rattle.std.proofs.lemmas.Bool.Decides.{nat_tests}
use Rattle.std.proofs.lemmas.List.{length-map}
use Rattle.std.proofs.lemmas.List.Elements.{All-append, All-filter, All-map, All-weaker, Contains-append_left}
use Rattle.std.proofs.lemmas.Option.{slice_get-map, slice_get-get_or}
use Rattle.mari_rows.proofs.BookFacts.{position-below}
use Rattle.mari_bids.specs.Bids.{bid_numbered}
use Rattle.mari_bids.specs.declared.bids.Bid.{Bid}
use Rattle.mari_demands.specs.Demands.{IsDemand}
use Rattle.mari_demands.specs.declared.demands.Demand.{Demand}
use Rattle.mari_demands.proofs.LimitTables.{place-within}
use Rattle.mari_market.specs.Gates.{parent_of}
use Rattle.mari_market.specs.Market.{IsValid, IsValidBorder, IsValidGate, IsValidOrder}
use Rattle.mari_market.specs.declared.market.Border.{Border}
use Rattle.mari_market.specs.declared.market.GateInfo.{GateInfo}
use Rattle.mari_market.specs.declared.market.Order.{Order}
use Rattle.mari_remain.specs.Accepted.{IsAccepted}
use Rattle.mari_remain.specs.Lists.{parent_at}
use Rattle.mari_remain.specs.RunMarket.{demand_order, demands_of_run, market_at}
use Rattle.mari_remain.specs.declared.books.Books.{Books}
use Rattle.mari_remain.proofs.Validity.{contains-map, demand, least_fits, most_left}
use Rattle.mari_blocks.specs.Blocks.{IsBlockBook}
use Rattle.mari_blocks.specs.Joint.{shifted_border, borders_brought, demands_brought, gate_info, gate_place, is_same_gate, is_too_large, joint_borders, joint_demands, joint_gates, joint_market_of, joint_numbers, joint_order, lacks_run, shifted_order, own_gate, run_of_quarter, zones_before}
use Rattle.mari_blocks.specs.declared.blocks.BlockBook.{BlockBook}
use Rattle.mari_blocks.specs.declared.gates.JointGate.{JointGate}
use Rattle.mari_blocks.specs.declared.gates.JointGate.TheVariants.{OfBid, OfBlock}
use Rattle.mari_blocks.proofs.JointBids.{numbers-follow, numbers-in, own-number, parent-gate}
use Rattle.mari_blocks.proofs.OwnGates.{HaveParents, all-have, gate-number, has-bid, parent-before}
use Rattle.mari_blocks.proofs.Quarters.{IsOffered, is-run, run-valid}
use Rattle.mari_blocks.proofs.Ranges.{all-flat}

-- nothing is no number
none-some : (n : ℕ) → None ≡ Some n → ⊥
none-some n e = cc e

-- a zone of a quarter is one of the joint market
module _ (books : Books) (first last quarter zone : ℕ) (low : first ≤ quarter) (high : quarter ≤ last) (there : zone < length books.zones.zones) where
  pub zone-within : zones_before books first quarter + zone < (last + 1 - first) * length books.zones.zones
  zone-within = place-within (last + 1 - first) (length books.zones.zones) (quarter - first) zone (omega (arith, low, high)) there

module _ (books : Books) (ok : IsAccepted books) (blocks : BlockBook) (first last : ℕ) (read : IsBlockBook books.bids books.links first last blocks) (all : lacks_run books first last ≡ false) where
  abbrev zones : ℕ
  zones = (last + 1 - first) * length books.zones.zones

  abbrev gates : List JointGate
  gates = joint_gates books blocks first last

  -- the borders of a quarter
  border-fits : (quarter : ℕ) (b : Border) → first ≤ quarter → quarter ≤ last → IsValidBorder (length books.zones.zones) b → IsValidBorder zones (shifted_border (zones_before books first quarter) b)
  border-fits quarter b low high fits = record {
    from = zone-within books first last quarter b.from low high fits.from;
    to = zone-within books first last quarter b.to low high fits.to;
    apart = λ e. fits.apart (omega (arith, e));
    limit = fits.limit;
    back = fits.back;
  }

  borders : All (IsValidBorder zones) (joint_borders books first last)
  borders = all-flat (IsValidBorder zones) (borders_brought books first) first (last + 1 - first) (λ quarter low high.
      let below : quarter ≤ last = omega (arith, low, high) in
      let own = (market_at books [] (run_of_quarter books.runs.runs quarter)).borders in
      All-map (IsValidBorder zones) (shifted_border (zones_before books first quarter)) own
      (All-weaker (IsValidBorder (length books.zones.zones)) (λ b. IsValidBorder zones (shifted_border (zones_before books first quarter) b)) (λ b fits. border-fits quarter b low below fits) own
      (run-valid books ok first last all quarter low below).borders))

  -- the orders of a quarter's demands
  order-fits : (quarter n : ℕ) (o : Order) → first ≤ quarter → quarter ≤ last → IsValidOrder (length books.zones.zones) n o → IsValidOrder zones n (shifted_order (zones_before books first quarter) o)
  order-fits quarter n o low high fits = record {
    zone = zone-within books first last quarter o.zone low high fits.zone;
    price = fits.price;
    in_order = fits.in_order;
    small = fits.small;
    gate = fits.gate;
  }

  demands : All (IsValidOrder zones (length gates)) (joint_demands books first last)
  demands = all-flat (IsValidOrder zones (length gates)) (demands_brought books first) first (last + 1 - first) (λ quarter low high.
      let below : quarter ≤ last = omega (arith, low, high) in
      let run = run_of_quarter books.runs.runs quarter in
      let own = demands_of_run books.demands.demands run in
      let after : Order → Order = shifted_order (zones_before books first quarter) in
      let each = All-filter (λ (d : Demand). d.run == run) (IsDemand books.zones (length books.runs.runs)) books.demands.demands ok.demands.demands in
      All-map (IsValidOrder zones (length gates)) after (map demand_order own)
      (All-map (λ o. IsValidOrder zones (length gates) (after o)) demand_order own
      (All-weaker (IsDemand books.zones (length books.runs.runs)) (λ d. IsValidOrder zones (length gates) (after (demand_order d)))
      (λ d is. order-fits quarter (length gates) (demand_order d) low below (demand books.zones (length books.runs.runs) (length gates) d is)) own each)))

  -- a gate that is named is there
  gate-below : (o : Option JointGate) (g : ℕ) → option_and_then (gate_place gates) o ≡ Some g → g < length gates
  gate-below None g e = absurd (none-some g e)
  gate-below (Some gate) g e = position-below (is_same_gate gate) gates g e

  -- the order of a bid
  bid-fits : (bid : ℕ) → IsOffered books ok first last all bid → IsValidOrder zones (length gates) (joint_order books blocks first gates bid)
  bid-fits bid is =
      let b : Bid = bid_numbered books.bids.bids bid in
      let fits = ok.bids.bids bid _ is.there in
      let gate : Option ℕ = option_and_then (gate_place gates) (own_gate books blocks bid) in
      let least = least_fits (length gates) b gate 0 fits.least fits.some (gate-below (own_gate books blocks bid)) in
      record {
        zone = zone-within books first last b.quarter b.zone is.from_first is.to_last fits.zone;
        price = fits.price;
        in_order = least.0;
        small = omega (arith, fits.most, most_left gate b.greatest 0);
        gate = least.1;
      }

  orders : All (IsValidOrder zones (length gates)) (joint_market_of books blocks first last).orders
  orders = All-append (IsValidOrder zones (length gates)) (map (joint_order books blocks first gates) (joint_numbers books blocks first last)) (joint_demands books first last)
      (All-map (IsValidOrder zones (length gates)) (joint_order books blocks first gates) (joint_numbers books blocks first last)
      (All-weaker (IsOffered books ok first last all) (λ bid. IsValidOrder zones (length gates) (joint_order books blocks first gates bid)) bid-fits (joint_numbers books blocks first last)
      (numbers-in books ok blocks first last read all)))
      demands

  -- the gates of parents stand before those of their children
  have : HaveParents (own_gate books blocks) (parent_at books.links.links) (parent-gate books ok blocks first last read) (own-number books ok blocks first last read) gates
  have =
      all-have (own_gate books blocks) (parent_at books.links.links) (parent-gate books ok blocks first last read)
      (own-number books ok blocks first last read) (joint_numbers books blocks first last)
      (numbers-follow books ok blocks first last read all)

  abbrev info : JointGate → GateInfo
  info = gate_info books.links.links gates

  abbrev order_of : ℕ → Order
  order_of = joint_order books blocks first gates

  abbrev numbers : List ℕ
  numbers = joint_numbers books blocks first last

  -- a gate, where there is none
  abbrev no_gate : JointGate
  no_gate = OfBid 0

  parent-less : (g h : ℕ) (gate : JointGate) → g < length gates → get_or gates g no_gate ≡ gate → (info gate).parent ≡ Some h → h < g
  parent-less g h (OfBlock block) l is e = absurd (none-some h e)
  parent-less g h (OfBid bid) l is e = by (parent_at books.links.links bid) refl e
    where
      by : (o : Option ℕ) → parent_at books.links.links bid ≡ o → option_and_then (λ parent. gate_place gates (OfBid parent)) o ≡ Some h → h < g
      by None up f = absurd (none-some h f)
      by (Some parent) up f =
          parent-before (own_gate books blocks) (parent_at books.links.links) (parent-gate books ok blocks first last read)
          (own-number books ok blocks first last read) gates g h bid parent no_gate have l is up f

  gate : (g : ℕ) → g < length (joint_market_of books blocks first last).gates → IsValidGate (joint_market_of books blocks first last) g
  gate g l =
      let less : g < length gates = simp length-map at l in
      let there : parent_of (map info gates) g ≡ (info (get_or gates g no_gate)).parent = rw (slice_get-map info gates g, slice_get-get_or gates g no_gate less) refl in
      let has = has-bid (own_gate books blocks) numbers g no_gate less in
      let placed = Contains-append_left (map order_of numbers) (joint_demands books first last) (order_of has.bid) (contains-map order_of numbers has.bid has.there) in
      let own : (order_of has.bid).gate ≡ Some g = ap (option_and_then (gate_place gates)) has.own ∙ gate-number (own_gate books blocks) numbers g no_gate less in
      record {
        parent = λ h e. parent-less g h (get_or gates g no_gate) less refl (sym there ∙ e);
        used = (placed.0, order_of has.bid, placed.1, placed.2, own);
      }

  -- what is not too large
  record IsSmall : Type 0 where
    zones : (last + 1 - first) * length books.zones.zones ≤ 64
    borders : length (joint_borders books first last) ≤ 256
    bids : length (joint_numbers books blocks first last) ≤ 4096
    gates : length (joint_gates books blocks first last) ≤ 512
    demands : length (joint_demands books first last) ≤ 512

  at-most : (most n : ℕ) → nat_lt most n ≡ false → n ≤ most
  at-most most n e = grind (arith, nat_tests, e)

  small : is_too_large books blocks first last ≡ false → IsSmall
  small e =
      let a = nat_lt 64 ((last + 1 - first) * length books.zones.zones) in
      let b = nat_lt 256 (length (joint_borders books first last)) in
      let c = nat_lt 4096 (length (joint_numbers books blocks first last)) in
      let d = nat_lt 512 (length (joint_gates books blocks first last)) in
      let all_demands = or_parts (a || b || c || d) (nat_lt 512 (length (joint_demands books first last))) e in
      let all_gates = or_parts (a || b || c) d all_demands.0 in
      let all_bids = or_parts (a || b) c all_gates.0 in
      let all_borders = or_parts a b all_bids.0 in
      record {
        zones = at-most 64 _ all_borders.0;
        borders = at-most 256 _ all_borders.1;
        bids = at-most 4096 _ all_bids.1;
        gates = at-most 512 _ all_gates.1;
        demands = at-most 512 _ all_demands.1;
      }

  pub joint-valid : first ≤ last → is_too_large books blocks first last ≡ false → IsValid (joint_market_of books blocks first last)
  joint-valid in_order e =
      let fits = small e in
      let some = zone-within books first last first 0 (omega arith) in_order (omega (arith, ok.zones.some)) in
      let run = is-run books ok first last all first (omega arith) in_order in
      record {
        zones = (omega (arith, some), fits.zones);
        few_borders = fits.borders;
        few_orders = simp (length-append, length-map) (omega (arith, fits.bids, fits.demands));
        few_gates = simp length-map fits.gates;
        borders = borders;
        orders = simp length-map orders;
        gates = gate;
        reference = let own = ok.runs.runs (run_of_quarter books.runs.runs first - 1) _ (omega (arith, run.first, run.last)) in record { low = own.reference.low; high = own.reference.high };
      }
