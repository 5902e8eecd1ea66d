-- Words on the books: a bid, its links, a run, by their numbers.
use Rattle.std.specs.Prelude.{ℕ, ◌+◌, ◌-◌, ◌==◌, pos, Bool, false, List, [], ◌∷◌, Option, None, if◌then◌else◌, slice_get, slice_index_or}
use Rattle.std.specs.Option.{option_and_then}
use Rattle.mari_bids.specs.declared.bids.Bid.{Bid}
use Rattle.mari_links.specs.declared.links.BidLinks.{BidLinks}
use Rattle.mari_demands.specs.declared.demands.Demand.{Demand}
use Rattle.mari_demands.specs.declared.runs.Run.{Run}
use Rattle.mari_remain.specs.declared.books.Books.{Books}

-- the places, counted from k, of the items that pass the test
abbrev pub places_from : {X : Type 0} → (X → Bool) → ℕ → List X → List ℕ
places_from p k [] = []
places_from p k (x ∷ xs) = if p x then k ∷ places_from p (k + 1) xs else places_from p (k + 1) xs

-- the places of the items that are this key
abbrev pub places_of : List ℕ → ℕ → List ℕ
places_of keys key = places_from (λ k. k == key) 0 keys

-- the bids of a quarter, by their numbers, in the order of the bid file
abbrev pub bids_of_quarter : List Bid → ℕ → List ℕ
bids_of_quarter bids quarter = places_from (λ (b : Bid). b.quarter == quarter) 0 bids

-- the demands of a run, by their numbers, in the order of the file of demands
abbrev pub numbers_of_run : List Demand → ℕ → List ℕ
numbers_of_run demands run = places_from (λ (d : Demand). d.run == run) 0 demands

-- the demand of a number that is there
abbrev pub demand_at : List Demand → ℕ → Demand
demand_at demands i = slice_index_or demands i (record { run = 0; zone = 0; mw = pos 0; price = None })

-- the group of the bid of a number, and its parent
abbrev pub group_at : List BidLinks → ℕ → Option ℕ
group_at links i = option_and_then (λ (l : BidLinks). l.group) (slice_get links i)

abbrev pub parent_at : List BidLinks → ℕ → Option ℕ
parent_at links i = option_and_then (λ (l : BidLinks). l.parent) (slice_get links i)

-- a run, counted from 1
abbrev pub run_numbered : Books → ℕ → Run
run_numbered books run = slice_index_or books.runs.runs (run - 1) (record { quarter = 0; direct = false; reference = record { 0 = pos 0 } })
