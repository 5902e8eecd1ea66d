-- What is known of books that were read and accepted.
use Rattle.std.specs.Prelude.{◌≤◌, IfSome, length}
use Rattle.mari_zones.specs.Zones.{IsZoneBook}
use Rattle.mari_zones.specs.Borders.{IsBorderBook}
use Rattle.mari_bids.specs.Bids.{IsBidBook}
use Rattle.mari_links.specs.Links.{IsLinkBook}
use Rattle.mari_demands.specs.LimitPairs.{IsLimitTable}
use Rattle.mari_demands.specs.Runs.{IsRunBook}
use Rattle.mari_demands.specs.Demands.{IsDemandBook}
use Rattle.mari_remain.specs.declared.books.Books.{Books}
use Rattle.mari_units.specs.declared.limits.TheConstants.{MOST_QUARTERS}

-- books of one folder, each read with those before it, on a day of at most `MOST_QUARTERS` quarters
pub record IsAccepted (books : Books) : Type 0 where
  pub quarters : books.quarters ≤ MOST_QUARTERS
  pub zones : IsZoneBook books.zones
  pub borders : IsBorderBook books.zones books.borders
  pub bids : IsBidBook books.zones books.quarters books.bids
  pub links : IsLinkBook books.bids books.links
  pub runs : IsRunBook books.quarters books.runs
  pub demands : IsDemandBook books.zones (length books.runs.runs) books.demands
  pub limits : IfSome books.limits (IsLimitTable (length books.runs.runs) (length books.borders.borders))
