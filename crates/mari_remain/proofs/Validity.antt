-- The market of a run of accepted books is valid.
use Rattle.std.proofs.Common.{◌≡◌, ℕ, ◌+◌, ◌-◌, ◌<◌, ◌≤◌, ◌==◌, ℤ, Bool, true, false, List, [], ◌∷◌, length, map, cond, refl, ap, ◌∙◌, sym, arith, Option, Some, None, IfSome, filter, unwrap_or, slice_get, slice_index_or, get_or, zero-add, length-append, int_lt, unsigned_abs, pos, negsuc, neg_ℤ, ◌≤ℤ◌, ◌+ℤ◌, ◌-ℤ◌}
use Rattle.std.proofs.lemmas.Int.{ints}
use Rattle.std.specs.Option.{option_and_then}
use Rattle.std.specs.Prelude.{IfOk, Result, Ok, Err}
use Rattle.std.specs.List.{All, AllPairs, Contains, range_with_len}
use Rattle.std.proofs.lemmas.List.Elements.{All-append, All-filter, Contains-append_left, All-contains_itself, All-map, All-weaker}
use Rattle.std.proofs.lemmas.List.Kept.{AllPairs-filter}
use Rattle.std.proofs.lemmas.List.Sums.{count_by-le-length, length-filter}
use Rattle.std.proofs.lemmas.List.FromFn.{get_or-range_with_len, length-range_with_len}
use Rattle.std.proofs.lemmas.List.{length-map, get_or-map}
use Rattle.std.proofs.lemmas.Option.{slice_get-map, slice_get-get_or}
use Rattle.mari_units.specs.declared.Cents.{Cents}
use Rattle.mari_zones.specs.declared.zones.ZoneBook.{ZoneBook}
use Rattle.mari_zones.specs.declared.borders.BorderEnds.{BorderEnds}
use Rattle.mari_bids.specs.declared.bids.Bid.{Bid}
use Rattle.mari_bids.specs.declared.bids.BidBook.{BidBook}
use Rattle.mari_zones.specs.Borders.{IsBorder}
use Rattle.mari_bids.specs.Bids.{IsBid, bid_numbered}
use Rattle.mari_demands.specs.Demands.{IsDemand}
use Rattle.mari_links.specs.Links.{has_gate, count_of, quarter_of, IsParent}
use Rattle.mari_links.specs.declared.links.BidLinks.{BidLinks}
use Rattle.mari_demands.specs.declared.demands.Demand.{Demand}
use Rattle.mari_market.specs.declared.market.Order.{Order}
use Rattle.mari_market.specs.Gates.{parent_of}
use Rattle.mari_market.specs.Market.{IsValid, IsValidBorder, IsValidGate, IsValidOrder, GateFits}
use Rattle.mari_market.specs.Price.{IsCapped, IsPrice}
use Rattle.mari_remain.specs.declared.books.Books.{Books}
use Rattle.mari_remain.specs.declared.market.RunMarket.{RunMarket}
use Rattle.mari_remain.specs.Accepted.{IsAccepted}
use Rattle.mari_demands.specs.LimitPairs.{IsLimitTable}
use Rattle.mari_demands.specs.declared.limits.Limits.{Limits}
use Rattle.mari_remain.specs.Available.{Taken, is_available}
use Rattle.mari_remain.specs.Lists.{bids_of_quarter, parent_at, run_numbered}
use Rattle.mari_remain.specs.RunMarket.{at_least_0, bid_order, border_left, demand_order, demands_of_run, ends_at, gate_at, gate_of, gated_left, greatest_left, inelastic_price, least_left, market_left, numbers_left, run_limits, stated_limits}
use Rattle.mari_remain.proofs.Places.{IsPlace, places-filter, places-within, places-rise, length-places}
use Rattle.mari_remain.proofs.Gates.{gate-at, gate-is, gate-less}

-- where a number is at most `most`, so is what `at_least_0` makes of it
at_least_0-most : (z : ℤ) (most : ℕ) → z ≤ℤ pos most → at_least_0 z ≤ most
at_least_0-most (pos n) most l = omega (arith, ints, l)
at_least_0-most (negsuc n) most l = omega arith

-- what is left of limits of up to 99,999 MW, after a flow of at most 99,999 MW, is within the limits of a run
border : (zones : ZoneBook) (b : BorderEnds) (limits : Limits) (flow : ℤ) → IsBorder zones b → limits.limit ≤ 99999 → limits.back ≤ 99999 → unsigned_abs flow ≤ 99999
    → IsValidBorder (length zones.zones) (border_left b limits flow)
border zones b limits flow h limit back small = record {
  from = h.from;
  to = h.to;
  apart = h.apart;
  limit = at_least_0-most (pos limits.limit -ℤ flow) 199998 (omega (arith, ints, limit, small));
  back = at_least_0-most (pos limits.back +ℤ flow) 199998 (omega (arith, ints, back, small));
}

-- its least quantity is at most its greatest, and at least 1 with a gate
pub least_fits : (gates : ℕ) (b : Bid) (gate : Option ℕ) (taken : ℕ) → b.least ≤ b.greatest → 1 ≤ b.greatest → ((g : ℕ) → gate ≡ Some g → g < gates)
    → (least_left gate b.least ≤ greatest_left gate b.greatest taken) × GateFits gates (bid_order b gate taken)
least_fits gates b None taken h one there = (omega arith, refl)
least_fits gates b (Some g) taken h one there =
    let in_order : cond (b.least == 0) 1 b.least ≤ b.greatest = grind arith in let some : 1 ≤ cond (b.least == 0) 1 b.least = grind arith in (in_order, (there g refl, some))

-- what is left of an offer is no more than the offer
pub most_left : (gate : Option ℕ) (offer taken : ℕ) → greatest_left gate offer taken ≤ offer
most_left None offer taken = omega arith
most_left (Some g) offer taken = omega arith

-- a bid's order
bid : (zones : ZoneBook) (providers quarters gates : ℕ) (b : Bid) (gate : Option ℕ) (taken : ℕ) → IsBid zones providers quarters b → ((g : ℕ) → gate ≡ Some g → g < gates)
    → IsValidOrder (length zones.zones) gates (bid_order b gate taken)
bid zones providers quarters gates b gate taken h there =
    let fits = least_fits gates b gate taken h.least h.some there in
    record { zone = h.zone; price = h.price; in_order = fits.0; small = omega (arith, h.most, most_left gate b.greatest taken); gate = fits.1 }

-- an inelastic price is within the cap
inelastic : (mw : ℤ) → IsPrice (inelastic_price mw).0
inelastic mw =
    let low : Cents = record { 0 = neg_ℤ (pos 9999900) } in
    let high : Cents = record { 0 = pos 9999900 } in
    elim (int_lt mw (pos 0)) as (λ v. IsPrice (cond v low high).0) [
      | true ↦ record { low = omega (arith, ints); high = omega (arith, ints) }
      | false ↦ record { low = omega (arith, ints); high = omega (arith, ints) }
    ]

demand_price : (price : Option Cents) (mw : ℤ) → IfSome price IsCapped → IsPrice (unwrap_or price (inelastic_price mw)).0
demand_price None mw h = inelastic mw
demand_price (Some p) mw h = h

-- a demand's order
pub demand : (zones : ZoneBook) (runs gates : ℕ) (d : Demand) → IsDemand zones runs d → IsValidOrder (length zones.zones) gates (demand_order d)
demand zones runs gates d h = record { zone = h.zone; price = demand_price d.price d.mw h.price; in_order = omega arith; small = h.mw; gate = refl }

-- what a list contains is contained, mapped, in the list of what it is mapped to
pub contains-map : {X Y : Type 0} (f : X → Y) (xs : List X) (x : X) → Contains xs x → Contains (map f xs) (f x)
contains-map f xs x (k, l, e) = (k, simp length-map l, get_or-map f xs k x (f x) l ∙ ap f e)

parent_in : (parent : Option ℕ) (gated : List ℕ) (h : ℕ) → option_and_then (gate_of gated) parent ≡ Some h → (p : ℕ) × (parent ≡ Some p) × (gate_of gated p ≡ Some h)
parent_in None gated h e = absurd (cc)
parent_in (Some p) gated h e = (p, refl, e)

-- the gate at a place
gate_there : (links : List BidLinks) (gated : List ℕ) (g : ℕ) → g < length gated → parent_of (map (gate_at links gated) gated) g ≡ option_and_then (gate_of gated) (parent_at links (get_or gated g 0))
gate_there links gated g l = rw (slice_get-map (gate_at links gated) gated g, slice_get-get_or gated g 0 l) refl

-- what is read at a place that is there is its bid
pub same_quarter : (quarter : ℕ) (bids : BidBook) (i : ℕ) (d : Bid) → i < length bids.bids → (quarter_of bids (0 + i) == quarter) ≡ ((slice_index_or bids.bids i d).quarter == quarter)
same_quarter quarter bids i d l = rw (zero-add i, slice_get-get_or bids.bids i d l) refl

-- two filters in either order
one_filter : (p q : ℕ → Bool) (x : ℕ) (xs : List ℕ) → filter p (filter q xs) ≡ filter q (filter p xs) → (b : Bool) → p x ≡ b → (c : Bool) → q x ≡ c
    → filter p (filter q (x ∷ xs)) ≡ filter q (filter p (x ∷ xs))
one_filter p q x xs same true e true f = rw (f, e, f) (ap (λ ys. x ∷ ys) same)
one_filter p q x xs same true e false f = rw (f, e, f) same
one_filter p q x xs same false e true f = rw (f, e) same
one_filter p q x xs same false e false f = rw (f, e) same

filters : (p q : ℕ → Bool) (xs : List ℕ) → filter p (filter q xs) ≡ filter q (filter p xs)
filters p q [] = refl
filters p q (x ∷ xs) = one_filter p q x xs (filters p q xs) (p x) refl (q x) refl

-- the numbers below n
range-below : (n : ℕ) → All (λ k. k < n) (range_with_len 0 n)
range-below n = λ k d l. let place = get_or-range_with_len 0 n k d (omega (arith, l, length-range_with_len 0 n)) in rw place (omega (arith, l, length-range_with_len 0 n))

-- the limits that the files state for a border are in range
pub in_range : (books : Books) (limits : Option (List (List Limits))) (run k : ℕ)
    → IfSome limits (IsLimitTable (length books.runs.runs) (length books.borders.borders))
    → IsBorder books.zones (ends_at books.borders.borders k)
    → ((stated_limits limits (ends_at books.borders.borders k) run k).limit ≤ 99999) × ((stated_limits limits (ends_at books.borders.borders k) run k).back ≤ 99999)
in_range books None run k h b = (b.limit, b.back)
in_range books (Some table) run k h b = (h.limit run k, h.back run k)

module _ (books : Books) (ok : IsAccepted books) where
  -- no more gated bids of a quarter than a run may have gates, whichever of them are available
  gated_of_quarter : (quarter : ℕ) → length (filter (has_gate books.links) (bids_of_quarter books.bids.bids quarter)) ≤ 512
  gated_of_quarter quarter =
      let links = books.links in
      let numbers : List ℕ = range_with_len 0 (length books.bids.bids) in
      let of_quarter : ℕ → Bool = λ i. quarter_of books.bids i == quarter in
      let placed : bids_of_quarter books.bids.bids quarter ≡ filter of_quarter numbers =
      places-filter (λ (b : Bid). b.quarter == quarter) of_quarter 0 books.bids.bids (same_quarter quarter books.bids) in
      let both : length (filter (has_gate links) (filter of_quarter numbers)) ≡ length (filter of_quarter (filter (has_gate links) numbers)) =
      ap length (filters (has_gate links) of_quarter numbers) in
      let counted : length (filter of_quarter (filter (has_gate links) numbers)) ≡ count_of books.bids (filter (has_gate links) numbers) quarter =
      length-filter of_quarter (filter (has_gate links) numbers) in
      let all : length books.links.links ≡ length books.bids.bids = ok.links.one_each ∙ ok.bids.named in
      let most = rw all at (ok.links.of_quarter quarter) in
      rw placed (omega (arith, both, counted, most))

  pub few_of_quarter : (p : ℕ → Bool) (quarter : ℕ) → length (filter (has_gate books.links) (filter p (bids_of_quarter books.bids.bids quarter))) ≤ 512
  few_of_quarter p quarter =
      let all = bids_of_quarter books.bids.bids quarter in
      let other = ap length (filters (has_gate books.links) p all) in
      omega (arith, gated_of_quarter quarter, other, length-filter p (filter (has_gate books.links) all), count_by-le-length p (filter (has_gate books.links) all))

  pub parents : (child parent : ℕ) → parent_at books.links.links child ≡ Some parent → IsParent books.bids books.links child parent
  parents child parent e = found (slice_get books.links.links child) refl e
    where
      found : (o : Option BidLinks) → slice_get books.links.links child ≡ o → option_and_then (λ (l : BidLinks). l.parent) o ≡ Some parent → IsParent books.bids books.links child parent
      found None there up = absurd (cc)
      found (Some l) there up = (ok.links.links child l there).parent parent up

  -- each demand of a run is small enough to be an order
  pub small : (run : ℕ) → All (λ (d : Demand). unsigned_abs d.mw ≤ 99999) (demands_of_run books.demands.demands run)
  small run = All-weaker (IsDemand books.zones (length books.runs.runs)) (λ (d : Demand). unsigned_abs d.mw ≤ 99999) (λ d h. h.mw) (demands_of_run books.demands.demands run)
      (All-filter (λ (d : Demand). d.run == run) (IsDemand books.zones (length books.runs.runs)) books.demands.demands ok.demands.demands)

  pub few : (run : ℕ) → length (demands_of_run books.demands.demands run) ≤ 512
  few run = omega (arith, length-filter (λ (d : Demand). d.run == run) books.demands.demands, ok.demands.of_run run)

module _ (books : Books) (taken : Taken) (run : ℕ) (ok : IsAccepted books) (small_flows : (k : ℕ) → unsigned_abs (taken.flow k) ≤ 99999) where
  rise : AllPairs (λ i j. i < j) (gated_left books taken run)
  rise = AllPairs-filter (λ i j. i < j) (has_gate books.links) (numbers_left books taken run)
      (AllPairs-filter (λ i j. i < j) (is_available books taken (run_numbered books run)) (bids_of_quarter books.bids.bids (run_numbered books run).quarter)
      (places-rise (λ (b : Bid). b.quarter == (run_numbered books run).quarter) 0 books.bids.bids))

  pub there : All (λ i. i < length books.bids.bids) (numbers_left books taken run)
  there = All-filter (is_available books taken (run_numbered books run)) (λ i. i < length books.bids.bids) (bids_of_quarter books.bids.bids (run_numbered books run).quarter)
      (All-weaker (IsPlace 0 (length books.bids.bids)) (λ i. i < length books.bids.bids) (λ i l. omega (arith, l.below)) (bids_of_quarter books.bids.bids (run_numbered books run).quarter)
      (places-within (λ (b : Bid). b.quarter == (run_numbered books run).quarter) 0 books.bids.bids))

  pub few_numbers : length (numbers_left books taken run) ≤ 4096
  few_numbers = omega (
    arith,
    length-places (λ (b : Bid). b.quarter == (run_numbered books run).quarter) 0 books.bids.bids,
    ok.bids.of_quarter (run_numbered books run).quarter,
    length-filter (is_available books taken (run_numbered books run)) (bids_of_quarter books.bids.bids (run_numbered books run).quarter),
    count_by-le-length (is_available books taken (run_numbered books run)) (bids_of_quarter books.bids.bids (run_numbered books run).quarter),
  )

  few_gated : length (gated_left books taken run) ≤ 512
  few_gated = few_of_quarter books ok (is_available books taken (run_numbered books run)) (run_numbered books run).quarter

  bid_orders : All (IsValidOrder (length books.zones.zones) (length (gated_left books taken run)))
      (map (λ i. bid_order (bid_numbered books.bids.bids i) (gate_of (gated_left books taken run) i) (taken.mw i)) (numbers_left books taken run))
  bid_orders =
      let gated : List ℕ = gated_left books taken run in
      let zones : ℕ = length books.zones.zones in
      let valid : (i : ℕ) → i < length books.bids.bids
      → IsValidOrder (length books.zones.zones) (length (gated_left books taken run)) (bid_order (bid_numbered books.bids.bids i) (gate_of (gated_left books taken run) i) (taken.mw i)) =
      λ i l. bid books.zones (length books.bids.providers) books.quarters (length (gated_left books taken run)) (bid_numbered books.bids.bids i) (gate_of (gated_left books taken run) i) (taken.mw i)
      (ok.bids.bids i _ l) (λ g e. (gate-at (gated_left books taken run) i g e).0) in
      All-map (IsValidOrder (length books.zones.zones) (length (gated_left books taken run)))
      (λ i. bid_order (bid_numbered books.bids.bids i) (gate_of (gated_left books taken run) i) (taken.mw i)) (numbers_left books taken run)
      (All-weaker (λ i. i < length books.bids.bids) (λ i. IsValidOrder (length books.zones.zones) (length (gated_left books taken run))
      (bid_order (bid_numbered books.bids.bids i) (gate_of (gated_left books taken run) i) (taken.mw i))) valid (numbers_left books taken run) there)

  demand_orders : All (IsValidOrder (length books.zones.zones) (length (gated_left books taken run))) (map demand_order (demands_of_run books.demands.demands run))
  demand_orders = All-map (IsValidOrder (length books.zones.zones) (length (gated_left books taken run))) demand_order (demands_of_run books.demands.demands run)
      (All-weaker (IsDemand books.zones (length books.runs.runs)) (λ d. IsValidOrder (length books.zones.zones) (length (gated_left books taken run)) (demand_order d))
      (demand books.zones (length books.runs.runs) (length (gated_left books taken run))) (demands_of_run books.demands.demands run)
      (All-filter (λ (d : Demand). d.run == run) (IsDemand books.zones (length books.runs.runs)) books.demands.demands ok.demands.demands))

  gate : (g : ℕ) → g < length (map (gate_at books.links.links (gated_left books taken run)) (gated_left books taken run)) → IsValidGate (market_left books taken run) g
  gate g l =
      let gated : List ℕ = gated_left books taken run in
      let i : ℕ = get_or gated g 0 in
      let order_of : ℕ → Order = λ k. bid_order (bid_numbered books.bids.bids k) (gate_of gated k) (taken.mw k) in
      let less : g < length gated = simp length-map at l in
      let own : gate_of gated i ≡ Some g = gate-is gated g rise less in
      let kept : All (Contains (numbers_left books taken run)) gated =
      All-filter (has_gate books.links) (Contains (numbers_left books taken run)) (numbers_left books taken run) (All-contains_itself (numbers_left books taken run)) in
      let member : Contains (numbers_left books taken run) i = kept g 0 less in
      let placed : Contains (market_left books taken run).orders (order_of i) = Contains-append_left _ _ _ (contains-map order_of (numbers_left books taken run) i member) in
      record {
        parent = λ h e.
            let up = parent_in (parent_at books.links.links i) gated h (sym (gate_there books.links.links gated g less) ∙ e) in
            gate-less gated i up.0 g h rise own up.2 (parents books ok i up.0 up.1).before;
        used = (placed.0, order_of i, placed.1, placed.2, own);
      }

  border_at : (k : ℕ) → k < length books.borders.borders → IsValidBorder (length books.zones.zones) (border_left (ends_at books.borders.borders k) (run_limits books run k) (taken.flow k))
  border_at k l =
      let is : IsBorder books.zones (ends_at books.borders.borders k) = ok.borders.borders k _ l in
      let fits = in_range books books.limits run k ok.limits is in
      border books.zones (ends_at books.borders.borders k) (run_limits books run k) (taken.flow k) is fits.0 fits.1 (small_flows k)

  borders : All (IsValidBorder (length books.zones.zones)) (market_left books taken run).borders
  borders =
      All-map (IsValidBorder (length books.zones.zones)) (λ k. border_left (ends_at books.borders.borders k) (run_limits books run k) (taken.flow k))
      (range_with_len 0 (length books.borders.borders))
      (All-weaker (λ k. k < length books.borders.borders)
      (λ k. IsValidBorder (length books.zones.zones) (border_left (ends_at books.borders.borders k) (run_limits books run k) (taken.flow k))) border_at
      (range_with_len 0 (length books.borders.borders)) (range-below (length books.borders.borders)))

  -- the market is valid
  pub valid : 1 ≤ run → run ≤ length books.runs.runs → IsValid (market_left books taken run)
  valid first last = record {
    zones = (ok.zones.some, ok.zones.few);
    few_borders = simp (length-map, length-range_with_len) ok.borders.few;
    few_orders = simp (length-append, length-map) (omega (arith, few_numbers, few books ok run));
    few_gates = simp length-map few_gated;
    borders = borders;
    orders = simp length-map (All-append (IsValidOrder (length books.zones.zones) (length (gated_left books taken run))) _ _ bid_orders demand_orders);
    gates = gate;
    reference = let own = ok.runs.runs (run - 1) _ (omega arith) in record { low = own.reference.low; high = own.reference.high };
  }

-- what is made is valid where it is this market, which is
pub valid-made : {E : Type 0} (answer : Result RunMarket E) (m : RunMarket) → IfOk answer (λ made. made ≡ m) → IsValid m.market → IfOk answer (λ made. IsValid made.market)
valid-made (Ok made) m e h = rw e h
valid-made (Err e) m same h = tt
