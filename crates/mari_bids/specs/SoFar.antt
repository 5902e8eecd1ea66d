-- What stands in memory while a page of bids is read.
use Rattle.std.specs.Prelude.{◌≡◌, ◌≤◌, ◌+◌, ℕ, List, get_or, length, map}
use Rattle.mari_rows.specs.Names.{place_in}
use Rattle.mari_rows.specs.declared.rows.Row.{Row}
use Rattle.mari_bids.specs.Bids.{bid_at, count_of, id_of, provider_of, providers_of}
use Rattle.mari_bids.specs.declared.bids.BidsSoFar.{BidsSoFar}

-- the names, providers and bids of these lines, and how many of them each quarter has
pub record HoldsBids (rows : List Row) (so_far : BidsSoFar) : Type 0 where
  pub ids : so_far.ids ≡ map id_of rows
  pub providers : so_far.providers ≡ providers_of rows
  pub bids : so_far.bids.items ≡ map (λ row. bid_at so_far.zones.now so_far.quarters (place_in so_far.providers (provider_of row)) row) rows
  pub sized : length so_far.counts.items ≡ so_far.quarters + 1
  pub counts : (k : ℕ) → k ≤ so_far.quarters → get_or so_far.counts.items k 0 ≡ count_of so_far.quarters rows k
