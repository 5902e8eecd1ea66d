-- The book of bids.
use Rattle.std.specs.Prelude.{◌≡◌, ◌≢◌, ◌≤◌, ◌<◌, ℕ, ◌==◌, length, Bool, false, List, [], ◌∷◌, ◌++◌, Option, not, ◌&&◌, nat_le, nat_lt, map, codes, is_some, unwrap_or, count_by, slice_index_or, pos}
use Rattle.std.specs.List.{All, AllPairs}
use Rattle.mari_units.specs.Names.{IsName, is_name}
use Rattle.mari_units.specs.Numbers.{price_of, whole_of}
use Rattle.mari_units.specs.Prices.{IsCapped}
use Rattle.mari_units.specs.declared.limits.TheConstants.{MOST_BID_MW, MOST_BIDS, MOST_PAGE}
use Rattle.mari_units.specs.declared.numbers.Cents.{Cents}
use Rattle.mari_rows.specs.Books.{Checks, Grammar}
use Rattle.mari_rows.specs.Fields.{cents_in, is_first_of, number_in}
use Rattle.mari_rows.specs.Names.{distinct, is_among, place_in}
use Rattle.mari_rows.specs.Rows.{field_of}
use Rattle.mari_rows.specs.declared.rows.Row.{Row}
use Rattle.mari_zones.specs.Borders.{zone_named}
use Rattle.mari_zones.specs.declared.zones.ZoneBook.{ZoneBook}
use Rattle.mari_bids.specs.BidChecks.{bid_check_number}
use Rattle.mari_bids.specs.declared.bids.Bid.{Bid}
use Rattle.mari_bids.specs.declared.bids.BidCheck.TheVariants.{BadField, LeastAboveGreatest, Quarter, Range, Repeated, TooMany, UnknownZone}
use Rattle.mari_bids.specs.declared.bids.BidBook.{BidBook}

-- the words of a direction and of a kind
unfoldable pub up_word : List ℕ
up_word = codes "up"

unfoldable pub down_word : List ℕ
down_word = codes "down"

unfoldable pub both_word : List ℕ
both_word = codes "both"

unfoldable pub scheduled_word : List ℕ
scheduled_word = codes "scheduled"

-- the name of a line's bid
abbrev pub id_of : Row → List ℕ
id_of row = field_of row 0

-- the name of a line's provider
abbrev pub provider_of : Row → List ℕ
provider_of row = field_of row 1

-- a line's zone, by its place
abbrev pub zone_in : ZoneBook → Row → Option ℕ
zone_in zones row = zone_named zones (field_of row 2)

-- a line's quarter, which is from 1 to `quarters`
abbrev pub quarter_in : ℕ → Row → Option ℕ
quarter_in quarters row = number_in 1 quarters (field_of row 3)

-- whether a line's bid is upward
abbrev pub is_up : Row → Option Bool
is_up row = is_first_of up_word down_word (field_of row 4)

-- a line's price
abbrev pub price_in : Row → Option Cents
price_in row = cents_in (field_of row 5)

-- a line's least and greatest quantity, in MW
abbrev pub least_in : Row → Option ℕ
least_in row = number_in 0 MOST_BID_MW (field_of row 6)

abbrev pub greatest_in : Row → Option ℕ
greatest_in row = number_in 1 MOST_BID_MW (field_of row 7)

-- whether a line's bid is for scheduled and direct runs, and not for scheduled ones alone
abbrev pub is_both : Row → Option Bool
is_both row = is_first_of both_word scheduled_word (field_of row 8)

-- the quarter, and the quantities, of a line that states them
abbrev pub quarter_at : ℕ → Row → ℕ
quarter_at quarters row = unwrap_or (quarter_in quarters row) 0

abbrev pub least_at : Row → ℕ
least_at row = unwrap_or (least_in row) 0

abbrev pub greatest_at : Row → ℕ
greatest_at row = unwrap_or (greatest_in row) 0

-- a field is no name, no number, no price or no word of its column
abbrev pub has_bad_field : Row → Bool
has_bad_field row = not (is_name (id_of row) && is_name (provider_of row) && is_some (whole_of (field_of row 3)) && is_some (whole_of (field_of row 6))
    && is_some (whole_of (field_of row 7)) && is_some (price_of (field_of row 5)) && is_some (is_up row) && is_some (is_both row))

-- how many of these lines are of a quarter
abbrev pub count_of : ℕ → List Row → ℕ → ℕ
count_of quarters rows quarter = count_by (λ row. quarter_at quarters row == quarter) rows

-- a line is refused for a bad field, for a bid of an earlier line, for an unknown zone, for a quarter that the day
-- doesn't have, for a price or a quantity out of range, and for a least quantity above the greatest
abbrev pub bid_checks : ZoneBook → ℕ → List Row → Row → Checks
bid_checks zones quarters earlier row =
    (has_bad_field row, bid_check_number BadField)
    ∷ (is_among (map id_of earlier) (id_of row), bid_check_number Repeated)
    ∷ (not (is_some (zone_in zones row)), bid_check_number UnknownZone)
    ∷ (not (is_some (quarter_in quarters row)), bid_check_number Quarter)
    ∷ (not (is_some (price_in row) && is_some (greatest_in row) && is_some (least_in row)), bid_check_number Range)
    ∷ (nat_lt (greatest_at row) (least_at row), bid_check_number LeastAboveGreatest)
    ∷ []

-- and after `MOST_BIDS` bids of its quarter
abbrev pub line_checks : ZoneBook → ℕ → List Row → Row → Checks
line_checks zones quarters earlier row =
    bid_checks zones quarters earlier row ++ (nat_le MOST_BIDS (count_of quarters earlier (quarter_at quarters row)), bid_check_number TooMany) ∷ []

-- the bid of a line, whose provider has this place
abbrev pub bid_at : ZoneBook → ℕ → ℕ → Row → Bid
bid_at zones quarters provider row = record {
  provider = provider;
  zone = unwrap_or (zone_in zones row) 0;
  quarter = quarter_at quarters row;
  up = unwrap_or (is_up row) false;
  price = unwrap_or (price_in row) (record { 0 = pos 0 });
  least = least_at row;
  greatest = greatest_at row;
  both = unwrap_or (is_both row) false;
}

-- a bid, where there is none
abbrev pub no_bid : Bid
no_bid = record { provider = 0; zone = 0; quarter = 0; up = false; price = record { 0 = pos 0 }; least = 0; greatest = 0; both = false }

-- the bid of a number that is there
abbrev pub bid_numbered : List Bid → ℕ → Bid
bid_numbered bids i = slice_index_or bids i no_bid

-- the providers of these lines, each once, in order of first appearance
abbrev pub providers_of : List Row → List (List ℕ)
providers_of rows = distinct (map provider_of rows)

-- each line's name and bid, and each provider
abbrev pub bid_book : ZoneBook → ℕ → List Row → BidBook
bid_book zones quarters rows = record {
  ids = map id_of rows;
  providers = providers_of rows;
  bids = map (λ row. bid_at zones quarters (place_in (providers_of rows) (provider_of row)) row) rows;
}

-- the columns of the file
unfoldable pub bid_columns : List ℕ
bid_columns = codes "id,provider,zone,quarter,direction,price,least,greatest,kind"

-- what makes a page a book of bids in these zones, on a day of `quarters` quarter hours
abbrev pub bid_grammar : ZoneBook → ℕ → Grammar BidBook
bid_grammar zones quarters = record {
  columns = bid_columns;
  line_checks = line_checks zones quarters;
  file_checks = λ rows. [];
  book = bid_book zones quarters;
}

-- a bid of a zone of the day, of one of the first `providers` providers, in a quarter from 1 to `quarters`, with its
-- price and quantities in range
pub record IsBid (zones : ZoneBook) (providers quarters : ℕ) (bid : Bid) : Type 0 where
  pub provider : bid.provider < providers
  pub zone : bid.zone < length zones.zones
  pub first_quarter : 1 ≤ bid.quarter
  pub last_quarter : bid.quarter ≤ quarters
  pub price : IsCapped bid.price
  pub some : 1 ≤ bid.greatest
  pub most : bid.greatest ≤ MOST_BID_MW
  pub least : bid.least ≤ bid.greatest

-- what holds of every book of bids that is read: each bid has a name of its own, each provider a name, and no quarter
-- has more than `MOST_BIDS` bids
pub record IsBidBook (zones : ZoneBook) (quarters : ℕ) (book : BidBook) : Type 0 where
  pub named : length book.ids ≡ length book.bids
  pub ids : All IsName book.ids
  pub providers : All IsName book.providers
  pub few_providers : length book.providers ≤ length book.bids
  pub few : length book.bids ≤ MOST_PAGE
  pub distinct : AllPairs (λ a b. a ≢ b) book.ids
  pub bids : All (IsBid zones (length book.providers) quarters) book.bids
  pub of_quarter : (quarter : ℕ) → count_by (λ (bid : Bid). bid.quarter == quarter) book.bids ≤ MOST_BIDS
