-- The book of zones.
use Rattle.std.specs.Prelude.{◌≡◌, ◌≢◌, ◌≤◌, ◌<◌, ℕ, List, [], ◌∷◌, not, ◌&&◌, ◌==◌, nat_le, length, map, codes}
use Rattle.std.specs.List.{All, AllPairs}
use Rattle.mari_units.specs.Names.{IsName, is_name}
use Rattle.mari_units.specs.declared.limits.TheConstants.{MOST_ZONES}
use Rattle.mari_rows.specs.Books.{Checks, Grammar}
use Rattle.mari_rows.specs.Names.{distinct, is_among, place_in}
use Rattle.mari_rows.specs.Rows.{field_of}
use Rattle.mari_rows.specs.declared.rows.Row.{Row}
use Rattle.mari_zones.specs.ZoneChecks.{zone_check_number}
use Rattle.mari_zones.specs.declared.zones.ZoneBook.{ZoneBook}
use Rattle.mari_zones.specs.declared.zones.ZoneCheck.TheVariants.{BadField, NoZone, Repeated, TooManyZones}

-- the zone of a line
abbrev pub zone_of : Row → List ℕ
zone_of row = field_of row 0

-- the operator of a line
abbrev pub operator_of : Row → List ℕ
operator_of row = field_of row 1

-- the zones of these lines
abbrev pub zones_of : List Row → List (List ℕ)
zones_of rows = map zone_of rows

-- the operators of these lines, each once, in order of first appearance
abbrev pub operators_of : List Row → List (List ℕ)
operators_of rows = distinct (map operator_of rows)

-- a line is refused after `MOST_ZONES` others, for a field that is no name, and for a zone of an earlier line
abbrev pub zone_checks : List Row → Row → Checks
zone_checks earlier row =
    (nat_le MOST_ZONES (length earlier), zone_check_number TooManyZones)
    ∷ (not (is_name (zone_of row) && is_name (operator_of row)), zone_check_number BadField)
    ∷ (is_among (zones_of earlier) (zone_of row), zone_check_number Repeated)
    ∷ []

-- a file without a zone is refused
abbrev pub zone_file_checks : List Row → Checks
zone_file_checks rows = (length rows == 0, zone_check_number NoZone) ∷ []

-- each line's zone, each operator, and the place of each zone's operator
abbrev pub zone_book : List Row → ZoneBook
zone_book rows = record {
  zones = zones_of rows;
  operators = operators_of rows;
  operator_of = map (λ row. place_in (operators_of rows) (operator_of row)) rows;
}

-- the columns of the file
unfoldable pub zone_columns : List ℕ
zone_columns = codes "zone,operator"

-- what makes a page a book of zones
abbrev pub zone_grammar : Grammar ZoneBook
zone_grammar = record { columns = zone_columns; line_checks = zone_checks; file_checks = zone_file_checks; book = zone_book }

-- each zone of the book has an operator, which is one of the book
pub record HasOperators (book : ZoneBook) : Type 0 where
  pub one_each : length book.operator_of ≡ length book.zones
  pub there : All (λ operator. operator < length book.operators) book.operator_of

-- what holds of every book of zones that is read: 1 to `MOST_ZONES` zones, each with a name of its own and an
-- operator, which has a name
pub record IsZoneBook (book : ZoneBook) : Type 0 where
  pub some : 1 ≤ length book.zones
  pub few : length book.zones ≤ MOST_ZONES
  pub zones : All IsName book.zones
  pub distinct : AllPairs (λ a b. a ≢ b) book.zones
  pub operators : All IsName book.operators
  pub few_operators : length book.operators ≤ MOST_ZONES
  pub operators_there : HasOperators book
