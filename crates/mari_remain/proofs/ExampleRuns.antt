-- Runs after earlier ones, by hand: what is left of bids, of borders, and of links to earlier quarters.
use Rattle.std.proofs.Common.{◌≡◌, ℕ, ℤ, pos, Bool, true, false, List, [], ◌∷◌, Some, None, refl, map}
use Rattle.mari_units.specs.declared.Cents.{Cents}
use Rattle.mari_zones.specs.declared.borders.BorderEnds.{BorderEnds}
use Rattle.mari_bids.specs.declared.bids.Bid.{Bid}
use Rattle.mari_links.specs.declared.links.BidLinks.{BidLinks}
use Rattle.mari_demands.specs.declared.demands.Demand.{Demand}
use Rattle.mari_demands.specs.declared.runs.Run.{Run}
use Rattle.mari_market.specs.declared.market.Border.{Border}
use Rattle.mari_market.specs.declared.market.GateInfo.{GateInfo}
use Rattle.mari_market.specs.declared.market.Order.{Order}
use Rattle.mari_remain.specs.declared.books.Books.{Books}
use Rattle.mari_remain.specs.Blocks.{PastBlock}
use Rattle.mari_remain.specs.RunMarket.{market_at, numbers_of}

abbrev cents : ℕ → Cents
cents n = record { 0 = pos n }

-- an upward bid for both kinds of run
abbrev up : (zone quarter price least greatest : ℕ) → Bid
up zone quarter price least greatest = record { provider = 0; zone = zone; quarter = quarter; up = true; price = cents price; least = least; greatest = greatest; both = true }

abbrev no_links : BidLinks
no_links = record { gated = false; group = None; parent = None; needs = []; bars = []; technical = [] }

abbrev scheduled : ℕ → Run
scheduled quarter = record { quarter = quarter; direct = false; reference = cents 4000 }

abbrev direct : ℕ → Run
direct quarter = record { quarter = quarter; direct = true; reference = cents 4000 }

abbrev demand : (run zone mw : ℕ) → Demand
demand run zone mw = record { run = run; zone = zone; mw = pos mw; price = None }

-- names play no part in a run's market
abbrev books : (zones : List (List ℕ)) → List BorderEnds → List Bid → List BidLinks → List Run → List Demand → Books
books zones borders bids links runs demands = record {
  date = [];
  quarters = 96;
  zones = record { zones = zones; operators = []; operator_of = [] };
  borders = record { borders = borders };
  bids = record { ids = []; providers = []; bids = bids };
  links = record { links = links };
  runs = record { runs = runs };
  demands = record { demands = demands };
  limits = None;
}

-- a published block
abbrev published : (run quarter : ℕ) → Bool → (bids mws : List ℕ) → List ℤ → PastBlock
published run quarter direct bids mws flows = record {
  run = run;
  quarter = quarter;
  direct = direct;
  published = Some (record { bids = bids; activation = record { mw = mws; flow = flows } });
}

abbrev unpublished : (run quarter : ℕ) → Bool → PastBlock
unpublished run quarter direct = record { run = run; quarter = quarter; direct = direct; published = None }

-- the greatest quantities of a run's orders, and the limits of its borders
abbrev greatest_in : Books → List PastBlock → ℕ → List ℕ
greatest_in b blocks run = map (λ (o : Order). o.greatest) (market_at b blocks run).orders

abbrev limits_in : Books → List PastBlock → ℕ → List (ℕ × ℕ)
limits_in b blocks run = map (λ (e : Border). (e.limit, e.back)) (market_at b blocks run).borders

-- 70 MW of 100 are taken in a scheduled run: 30 are left for a direct one
abbrev one_bid : Books
one_bid = books ([] ∷ []) [] (up 0 1 5000 0 100 ∷ []) (no_links ∷ []) (scheduled 1 ∷ direct 1 ∷ []) (demand 1 0 70 ∷ demand 2 0 50 ∷ [])

pub what_is_left_of_a_bid : greatest_in one_bid (published 1 1 false (0 ∷ []) (70 ∷ 70 ∷ []) [] ∷ []) 2 ≡ 30 ∷ 50 ∷ []
what_is_left_of_a_bid = refl

pub nothing_is_left_of_a_bid : numbers_of one_bid (published 1 1 false (0 ∷ []) (100 ∷ 100 ∷ []) [] ∷ []) 2 ≡ []
nothing_is_left_of_a_bid = refl

pub unpublished_takes_nothing : greatest_in one_bid (unpublished 1 1 false ∷ []) 2 ≡ 100 ∷ 50 ∷ []
unpublished_takes_nothing = refl

-- a flow of 50 MW over a border of 50 there and 20 back: nothing is left there, and 70 back
abbrev two_zones : Books
two_zones = books ([] ∷ [] ∷ []) (record { from = 0; to = 1; limit = 50; back = 20 } ∷ []) (up 0 1 2000 0 100 ∷ up 1 1 6000 0 100 ∷ []) (no_links ∷ no_links ∷ [])
    (scheduled 1 ∷ direct 1 ∷ direct 2 ∷ []) (demand 1 1 80 ∷ demand 2 1 10 ∷ [])

abbrev congested : PastBlock
congested = published 1 1 false (0 ∷ 1 ∷ []) (50 ∷ 30 ∷ 80 ∷ []) (pos 50 ∷ [])

pub what_is_left_of_a_border : limits_in two_zones (congested ∷ []) 2 ≡ (0, 70) ∷ []
what_is_left_of_a_border = refl

-- and all of it in another quarter
pub another_quarter_has_it_all : limits_in two_zones (congested ∷ unpublished 2 1 true ∷ []) 3 ≡ (50, 20) ∷ []
another_quarter_has_it_all = refl

-- limits of 30 there and 50 back that are stated for the second run alone, after a flow of 50 MW there: nothing there,
-- and 100 back
abbrev limited : Books
limited = record two_zones {
  limits = Some (
      (record { limit = 50; back = 50 } ∷ [])
      ∷ (record { limit = 30; back = 50 } ∷ [])
      ∷ (record { limit = 0; back = 0 } ∷ [])
      ∷ []);
}

pub limits_of_the_run : limits_in limited (congested ∷ []) 2 ≡ (0, 100) ∷ []
limits_of_the_run = refl

pub limits_of_the_first_run : limits_in limited [] 1 ≡ (50, 50) ∷ []
limits_of_the_first_run = refl

-- y in quarter 1; in quarter 3 x needs y, z is barred by y, and v; in quarter 2 w is kept out by a direct run of y
abbrev linked : Books
linked = books ([] ∷ []) [] (up 0 1 1000 0 10 ∷ up 0 3 2000 0 10 ∷ up 0 3 1500 0 10 ∷ up 0 3 5000 0 100 ∷ up 0 2 1000 0 10 ∷ [])
    (no_links
    ∷ record { gated = false; group = None; parent = None; needs = 0 ∷ []; bars = []; technical = [] }
    ∷ record { gated = false; group = None; parent = None; needs = []; bars = 0 ∷ []; technical = [] }
    ∷ no_links
    ∷ record { gated = false; group = None; parent = None; needs = []; bars = []; technical = 0 ∷ [] }
    ∷ [])
    (scheduled 1 ∷ direct 1 ∷ scheduled 2 ∷ scheduled 3 ∷ []) (demand 1 0 5 ∷ demand 4 0 20 ∷ [])

abbrev with_y : List PastBlock
with_y = published 1 1 false (0 ∷ []) (5 ∷ 5 ∷ []) [] ∷ unpublished 2 1 true ∷ unpublished 3 2 false ∷ []

abbrev without_y : List PastBlock
without_y = published 1 1 false (0 ∷ []) (0 ∷ []) [] ∷ unpublished 2 1 true ∷ unpublished 3 2 false ∷ []

pub needed_and_there : numbers_of linked with_y 4 ≡ 1 ∷ 3 ∷ []
needed_and_there = refl

pub barred_and_not_there : numbers_of linked without_y 4 ≡ 2 ∷ 3 ∷ []
barred_and_not_there = refl

pub technical_after_a_scheduled_run : numbers_of linked (published 1 1 false (0 ∷ []) (5 ∷ 5 ∷ []) [] ∷ unpublished 2 1 true ∷ []) 3 ≡ 4 ∷ []
technical_after_a_scheduled_run = refl

pub technical_after_a_direct_run : numbers_of linked (unpublished 1 1 false ∷ published 2 1 true (0 ∷ []) (5 ∷ 5 ∷ []) [] ∷ []) 3 ≡ []
technical_after_a_direct_run = refl

-- an indivisible bid that didn't run in the scheduled run is offered whole in a direct one, and the other has 70 MW
-- left
abbrev indivisible : Books
indivisible = books ([] ∷ []) [] (up 0 1 3000 40 40 ∷ up 0 1 5000 0 100 ∷ [])
    (record { gated = true; group = None; parent = None; needs = []; bars = []; technical = [] } ∷ no_links ∷ [])
    (scheduled 1 ∷ direct 1 ∷ []) (demand 1 0 30 ∷ demand 2 0 40 ∷ [])

pub gated_bid_offered_whole : greatest_in indivisible (published 1 1 false (0 ∷ 1 ∷ []) (0 ∷ 30 ∷ 30 ∷ []) [] ∷ []) 2 ≡ 40 ∷ 70 ∷ 40 ∷ []
gated_bid_offered_whole = refl

pub gated_bid_not_offered_again : numbers_of indivisible (published 1 1 false (0 ∷ 1 ∷ []) (40 ∷ 0 ∷ 40 ∷ []) [] ∷ []) 2 ≡ 1 ∷ []
gated_bid_not_offered_again = refl

-- a family: the child of an activated parent has none, and of two in a group one activated keeps out the other
abbrev family : Books
family = books ([] ∷ []) [] (up 0 1 3000 0 10 ∷ up 0 1 3000 0 10 ∷ up 0 1 3000 0 10 ∷ up 0 1 3000 0 10 ∷ [])
    (record { gated = true; group = None; parent = None; needs = []; bars = []; technical = [] }
    ∷ record { gated = true; group = None; parent = Some 0; needs = []; bars = []; technical = [] }
    ∷ record { gated = true; group = Some 0; parent = None; needs = []; bars = []; technical = [] }
    ∷ record { gated = true; group = Some 0; parent = Some 1; needs = []; bars = []; technical = [] }
    ∷ [])
    (scheduled 1 ∷ direct 1 ∷ []) []

abbrev no_parent : GateInfo
no_parent = record { group = None; parent = None }

pub parent_activated : (market_at family (published 1 1 false (0 ∷ 1 ∷ 2 ∷ 3 ∷ []) (10 ∷ 0 ∷ 0 ∷ 0 ∷ []) [] ∷ []) 2).gates
    ≡ no_parent ∷ record { group = Some 0; parent = None } ∷ record { group = Some 0; parent = Some 0 } ∷ []
parent_activated = refl

pub group_taken : numbers_of family (published 1 1 false (0 ∷ 1 ∷ 2 ∷ 3 ∷ []) (0 ∷ 0 ∷ 10 ∷ 0 ∷ []) [] ∷ []) 2 ≡ 0 ∷ 1 ∷ []
group_taken = refl
