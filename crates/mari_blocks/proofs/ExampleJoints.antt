-- Joint markets of two quarters, by hand: a block over both, one that is left out, and quarters that can't be one
-- market.
use Rattle.std.proofs.Common.{◌≡◌, ℕ, pos, true, false, List, [], ◌∷◌, Option, Some, None, Err, map, refl}
use Rattle.mari_units.specs.declared.Cents.{Cents}
use Rattle.mari_bids.specs.declared.bids.Bid.{Bid}
use Rattle.mari_links.specs.declared.links.BidLinks.{BidLinks}
use Rattle.mari_demands.specs.declared.demands.Demand.{Demand}
use Rattle.mari_demands.specs.declared.runs.Run.{Run}
use Rattle.mari_market.specs.declared.market.Order.{Order}
use Rattle.mari_remain.specs.declared.books.Books.{Books}
use Rattle.mari_blocks.specs.Joint.{joint_in, joint_market_of, joint_numbers}
use Rattle.mari_blocks.specs.declared.blocks.BlockBook.{BlockBook}

abbrev cents : ℕ → Cents
cents n = record { 0 = pos n }

-- an upward bid of the only zone, for both kinds of run
abbrev up : (quarter price least greatest : ℕ) → Bid
up quarter price least greatest = record { provider = 0; zone = 0; quarter = quarter; up = true; price = cents price; least = least; greatest = greatest; both = true }

-- the links of a bid that has a gate or none, and needs these
abbrev links : (needs : List ℕ) → BidLinks
links needs = record { gated = false; group = None; parent = None; needs = needs; bars = []; technical = [] }

abbrev gated : BidLinks
gated = record (links []) { gated = true }

abbrev scheduled : (quarter reference : ℕ) → Run
scheduled quarter reference = record { quarter = quarter; direct = false; reference = cents reference }

abbrev demand : (run mw : ℕ) → Demand
demand run mw = record { run = run; zone = 0; mw = pos mw; price = None }

-- names play no part in a joint market
abbrev books : List Bid → List BidLinks → List Run → List Demand → Books
books bids links runs demands = record {
  date = [];
  quarters = 96;
  zones = record { zones = [] ∷ []; operators = []; operator_of = [] };
  borders = record { borders = [] };
  bids = record { ids = []; providers = []; bids = bids };
  links = record { links = links };
  runs = record { runs = runs };
  demands = record { demands = demands };
  limits = None;
}

abbrev blocks : List (Option ℕ) → BlockBook
blocks block_of = record { names = [] ∷ []; block_of = block_of }

-- a bid of 20 MW or nothing in each of two quarters, and a plain one beside each
abbrev pair : Books
pair =
    books (up 1 3000 20 20 ∷ up 2 3000 20 20 ∷ up 1 5000 0 100 ∷ up 2 2000 0 100 ∷ []) (gated ∷ gated ∷ links [] ∷ links [] ∷ [])
    (scheduled 1 4000 ∷ scheduled 2 7000 ∷ []) (demand 1 40 ∷ demand 2 40 ∷ [])

abbrev one_block : BlockBook
one_block = blocks (Some 0 ∷ Some 0 ∷ None ∷ None ∷ [])

pub bids_stand_by_quarter : joint_numbers pair one_block 1 2 ≡ 0 ∷ 2 ∷ 1 ∷ 3 ∷ []
bids_stand_by_quarter = refl

pub a_block_has_one_gate : map (λ (o : Order). o.gate) (joint_market_of pair one_block 1 2).orders ≡ Some 0 ∷ None ∷ Some 0 ∷ None ∷ None ∷ None ∷ []
a_block_has_one_gate = refl

pub zones_stand_by_quarter : map (λ (o : Order). o.zone) (joint_market_of pair one_block 1 2).orders ≡ 0 ∷ 0 ∷ 1 ∷ 1 ∷ 0 ∷ 1 ∷ []
zones_stand_by_quarter = refl

pub without_a_block_each_has_its_own : map (λ (o : Order). o.gate) (joint_market_of pair (blocks (None ∷ None ∷ None ∷ None ∷ [])) 1 2).orders ≡ Some 0 ∷ None ∷ Some 1 ∷ None ∷ None ∷ None ∷ []
without_a_block_each_has_its_own = refl

pub a_plain_bid_of_a_block_runs_1_mw : map (λ (o : Order). o.least) (joint_market_of pair (blocks (None ∷ None ∷ Some 0 ∷ Some 0 ∷ [])) 1 2).orders ≡ 20 ∷ 1 ∷ 20 ∷ 1 ∷ 0 ∷ 0 ∷ []
a_plain_bid_of_a_block_runs_1_mw = refl

pub a_quarter_without_a_run : joint_in pair one_block 1 3 ≡ Err (record { file = 6; line = 1; number = 16 })
a_quarter_without_a_run = refl

-- a bid of the second quarter that needs one of the first, which is of a block with one of the third
abbrev needing : Books
needing = books (up 1 1000 0 10 ∷ up 2 2000 0 10 ∷ up 3 2000 0 10 ∷ []) (links [] ∷ links (0 ∷ []) ∷ links [] ∷ []) (scheduled 1 4000 ∷ scheduled 2 4000 ∷ scheduled 3 4000 ∷ []) []

pub a_block_is_left_out_whole : joint_numbers needing (blocks (None ∷ Some 0 ∷ Some 0 ∷ [])) 2 3 ≡ []
a_block_is_left_out_whole = refl

pub links_across_quarters : joint_in needing (blocks (None ∷ None ∷ None ∷ [])) 1 3 ≡ Err (record { file = 5; line = 1; number = 18 })
links_across_quarters = refl
