-- The book of borders.
use Rattle.std.specs.Prelude.{◌≢◌, ◌≤◌, ◌<◌, ℕ, Bool, List, [], ◌∷◌, Option, Some, Result, if◌then◌else◌, not, ◌&&◌, ◌||◌, ◌==◌, nat_le, length, map, codes, position, is_some, unwrap_or}
use Rattle.std.specs.List.{All, list_any}
use Rattle.std.specs.Str.{bytes_eq}
use Rattle.mari_units.specs.declared.limits.TheConstants.{MOST_BORDERS, MOST_MW}
use Rattle.mari_rows.specs.Books.{Checks, Grammar, book_in}
use Rattle.mari_rows.specs.Fields.{number_in}
use Rattle.mari_rows.specs.Headers.{has_header}
use Rattle.mari_rows.specs.Rows.{field_of}
use Rattle.mari_rows.specs.declared.faults.BookFault.{BookFault}
use Rattle.mari_rows.specs.declared.rows.Row.{Row}
use Rattle.mari_zones.specs.BorderChecks.{border_check_number}
use Rattle.mari_zones.specs.declared.borders.BorderBook.{BorderBook}
use Rattle.mari_zones.specs.declared.borders.BorderCheck.TheVariants.{Range, Repeated, SelfBorder, TooManyBorders, Unknown}
use Rattle.mari_zones.specs.declared.borders.BorderEnds.{BorderEnds}
use Rattle.mari_zones.specs.declared.zones.ZoneBook.{ZoneBook}

-- the zone of this name, by its place
abbrev pub zone_named : ZoneBook → List ℕ → Option ℕ
zone_named zones name = position (bytes_eq name) zones.zones

-- the columns of the file, and those of version 2, where limits are stated for each run
unfoldable pub border_columns : List ℕ
border_columns = codes "from,to,limit,back"

unfoldable pub bare_columns : List ℕ
bare_columns = codes "from,to"

-- the version of a page: 2 exactly where its first record is the columns of version 2
abbrev pub version_in : List ℕ → ℕ
version_in page = if has_header bare_columns page then 2 else 1

-- the columns of borders.csv in a version
abbrev pub columns_in : (version : ℕ) → List ℕ
columns_in version = if version == 2 then bare_columns else border_columns

-- the limit of a border, in MW, as a file states it: from 0 to `MOST_MW`
abbrev pub file_limit_in : List ℕ → Option ℕ
file_limit_in text = number_in 0 MOST_MW text

-- the limit that a field of a border writes; in version 2 there is no such field, and the limit is 0
abbrev pub limit_in : (version : ℕ) → List ℕ → Option ℕ
limit_in version text = if version == 2 then Some 0 else file_limit_in text

-- the border of a line
abbrev pub border_of : ZoneBook → (version : ℕ) → Row → BorderEnds
border_of zones version row = record {
  from = unwrap_or (zone_named zones (field_of row 0)) 0;
  to = unwrap_or (zone_named zones (field_of row 1)) 0;
  limit = unwrap_or (limit_in version (field_of row 2)) 0;
  back = unwrap_or (limit_in version (field_of row 3)) 0;
}

-- two borders are between the same two zones, in either order
abbrev pub is_between_same : BorderEnds → BorderEnds → Bool
is_between_same a b = ((a.from == b.from) && (a.to == b.to)) || ((a.from == b.to) && (a.to == b.from))

-- a line is refused after `MOST_BORDERS` others, for an unknown zone, for one zone at both ends, for the zones of an
-- earlier line, and for a limit that isn't one
abbrev pub border_checks : ZoneBook → (version : ℕ) → List Row → Row → Checks
border_checks zones version earlier row =
    (nat_le MOST_BORDERS (length earlier), border_check_number TooManyBorders)
    ∷ (not (is_some (zone_named zones (field_of row 0)) && is_some (zone_named zones (field_of row 1))), border_check_number Unknown)
    ∷ ((border_of zones version row).from == (border_of zones version row).to, border_check_number SelfBorder)
    ∷ (list_any (is_between_same (border_of zones version row)) (map (border_of zones version) earlier), border_check_number Repeated)
    ∷ (not (is_some (limit_in version (field_of row 2)) && is_some (limit_in version (field_of row 3))), border_check_number Range)
    ∷ []

-- each line's border
abbrev pub border_book : ZoneBook → (version : ℕ) → List Row → BorderBook
border_book zones version rows = record { borders = map (border_of zones version) rows }

-- what makes a page of a version a book of borders between these zones
abbrev pub border_grammar : ZoneBook → (version : ℕ) → Grammar BorderBook
border_grammar zones version = record {
  columns = columns_in version;
  line_checks = border_checks zones version;
  file_checks = λ rows. [];
  book = border_book zones version;
}

-- the book of a page by its version, or its first refusal
abbrev pub borders_in : ZoneBook → List ℕ → Result BorderBook BookFault
borders_in zones page = book_in (border_grammar zones (version_in page)) page

-- a border between two zones of the day, with limits in range
pub record IsBorder (zones : ZoneBook) (border : BorderEnds) : Type 0 where
  pub from : border.from < length zones.zones
  pub to : border.to < length zones.zones
  pub apart : border.from ≢ border.to
  pub limit : border.limit ≤ MOST_MW
  pub back : border.back ≤ MOST_MW

-- what holds of every book of borders that is read
pub record IsBorderBook (zones : ZoneBook) (book : BorderBook) : Type 0 where
  pub few : length book.borders ≤ MOST_BORDERS
  pub borders : All (IsBorder zones) book.borders
