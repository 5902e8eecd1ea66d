-- What holds of every book of zones or borders that is read.
use Rattle.std.proofs.Common.{◌≡◌, ◌≢◌, ◌∙◌, ◌≤◌, ◌<◌, ◌==◌, ℕ, Bool, Some, if◌then◌else◌, true, false, List, [], ◌∷◌, ◌++◌, None, Ok, Err, Result, IfOk, map, length, length-append, sym, arith}
use Rattle.std.specs.Prelude.{is_some, unwrap_or}
use Rattle.std.specs.List.{All, AllPairs}
use Rattle.std.specs.Str.{bytes_eq}
use Rattle.std.proofs.lemmas.Bool.Decides.{nat_tests}
use Rattle.std.proofs.lemmas.List.{length-map, map-append}
use Rattle.std.proofs.lemmas.List.Elements.{All-map, All-nil, All-push}
use Rattle.mari_units.specs.Names.{IsName, is_name}
use Rattle.mari_rows.specs.Books.{GivesBook, book_in, first_failing}
use Rattle.mari_rows.specs.Fields.{number_in}
use Rattle.mari_rows.specs.Names.{place_in}
use Rattle.mari_rows.specs.Rows.{field_of}
use Rattle.mari_rows.specs.declared.faults.BookFault.{BookFault}
use Rattle.mari_rows.specs.declared.rows.Row.{Row}
use Rattle.mari_rows.proofs.BookLemmas.{book-page}
use Rattle.mari_rows.proofs.BookFacts.{all-distinct, all-passed, along-lines, distinct-more, found-below, number-bounds, places-below}
use Rattle.std.proofs.lemmas.Bool.{and_parts, not-false}
use Rattle.mari_rows.proofs.PlaceLemmas.{length-distinct}
use Rattle.mari_zones.specs.Zones.{IsZoneBook, operator_of, operators_of, zone_book, zone_checks, zone_file_checks, zone_grammar, zone_of, zones_of}
use Rattle.mari_zones.specs.Borders.{IsBorder, IsBorderBook, border_book, border_checks, border_grammar, border_of, limit_in, zone_named}
use Rattle.mari_zones.specs.declared.zones.ZoneBook.{ZoneBook}
use Rattle.mari_zones.specs.declared.borders.BorderBook.{BorderBook}

-- what holds of the lines of zones so far
record AreZones (rows : List Row) : Type 0 where
  few : length rows ≤ 64
  zones : All (λ row. is_name (zone_of row) ≡ true) rows
  operators : All (λ row. is_name (operator_of row) ≡ true) rows
  distinct : AllPairs (λ a b. a ≢ b) (zones_of rows)

one-zone : (before : List Row) (line : Row) → first_failing (zone_checks before line) ≡ None → AreZones before → AreZones (before ++ line ∷ [])
one-zone before line none so_far =
    let all = all-passed (zone_checks before line) none in
    let names = and_parts (is_name (zone_of line)) (is_name (operator_of line)) (not-false _ all.1.0) in
    let room : length before < 64 = grind (arith, nat_tests, all.0) in
    record {
      few = simp length-append (omega (arith, room));
      zones = All-push (λ row. is_name (zone_of row) ≡ true) before line so_far.zones names.0;
      operators = All-push (λ row. is_name (operator_of row) ≡ true) before line so_far.operators names.1;
      distinct = rw (map-append zone_of before (line ∷ [])) (distinct-more (zones_of before) (zone_of line) so_far.distinct all.1.1.0);
    }

no-zones : AreZones []
no-zones = record { few = omega arith; zones = All-nil _; operators = All-nil _; distinct = λ i j d i<j j<0. absurd (omega (arith, j<0)) }

some-zone : (n : ℕ) → (n == 0) ≡ false → 1 ≤ n
some-zone n e = grind (arith, nat_tests, e)

-- what is read is such a book of zones
pub zone-facts : (page : List ℕ) (result : Result ZoneBook BookFault) → GivesBook result (book_in zone_grammar page) → IfOk result IsZoneBook
zone-facts page (Err fault) gives = tt
zone-facts page (Ok book) gives =
    let read = book-page zone_grammar page book gives in
    let rows : List Row = read.0 in
    let is = read.2 in
    let are = along-lines zone_grammar AreZones one-zone rows book is no-zones in
    let file = all-passed (zone_file_checks rows) is.file in
    let place : Row → ℕ = λ row. place_in (operators_of rows) (operator_of row) in
    let whole : IsZoneBook (zone_book rows) = record {
      some = simp length-map (some-zone (length rows) file.0);
      few = simp length-map are.few;
      zones = All-map IsName zone_of rows are.zones;
      distinct = are.distinct;
      operators = all-distinct IsName (map operator_of rows) (All-map IsName operator_of rows are.operators);
      few_operators = omega (arith, length-distinct (map operator_of rows), length-map rows operator_of, are.few);
      operators_there = record {
        one_each = length-map rows place ∙ sym (length-map rows zone_of);
        there = All-map (λ operator. operator < length (operators_of rows)) place rows (places-below operator_of rows);
      };
    } in
    rw is.says whole

-- a limit that is stated is in range
limit-bound : (version : ℕ) (text : List ℕ) → is_some (limit_in version text) ≡ true → unwrap_or (limit_in version text) 0 ≤ 99999
limit-bound version text some = by (version == 2) some
  where
    by : (b : Bool) → is_some (if b then Some 0 else number_in 0 99999 text) ≡ true → unwrap_or (if b then Some 0 else number_in 0 99999 text) 0 ≤ 99999
    by true some = omega arith
    by false some = (number-bounds 0 99999 text some).1

module _ (zones : ZoneBook) (version : ℕ) where
  -- what holds of the lines of borders so far
  record AreBorders (rows : List Row) : Type 0 where
    few : length rows ≤ 256
    borders : All (λ row. IsBorder zones (border_of zones version row)) rows

  differ : (a b : ℕ) → (a == b) ≡ false → a ≢ b
  differ a b e = grind (arith, nat_tests, e)

  one-border : (before : List Row) (line : Row) → first_failing (border_checks zones version before line) ≡ None → AreBorders before → AreBorders (before ++ line ∷ [])
  one-border before line none so_far =
      let all = all-passed (border_checks zones version before line) none in
      let ends = and_parts (is_some (zone_named zones (field_of line 0))) (is_some (zone_named zones (field_of line 1))) (not-false _ all.1.0) in
      let limits = and_parts (is_some (limit_in version (field_of line 2))) (is_some (limit_in version (field_of line 3))) (not-false _ all.1.1.1.1.0) in
      let room : length before < 256 = grind (arith, nat_tests, all.0) in
      record {
        few = simp length-append (omega (arith, room));
        borders = All-push (λ row. IsBorder zones (border_of zones version row)) before line so_far.borders
            (record {
              from = found-below (bytes_eq (field_of line 0)) zones.zones ends.0;
              to = found-below (bytes_eq (field_of line 1)) zones.zones ends.1;
              apart = differ _ _ all.1.1.0;
              limit = limit-bound version (field_of line 2) limits.0;
              back = limit-bound version (field_of line 3) limits.1;
            });
      }

  -- what is read is such a book of borders
  pub border-facts : (page : List ℕ) (result : Result BorderBook BookFault) → GivesBook result (book_in (border_grammar zones version) page) → IfOk result (IsBorderBook zones)
  border-facts page (Err fault) gives = tt
  border-facts page (Ok book) gives =
      let read = book-page (border_grammar zones version) page book gives in
      let rows : List Row = read.0 in
      let is = read.2 in
      let are = along-lines (border_grammar zones version) AreBorders one-border rows book is (record { few = omega arith; borders = All-nil (λ row. IsBorder zones (border_of zones version row)) }) in
      let whole : IsBorderBook zones (border_book zones version rows) = record {
        few = simp length-map are.few;
        borders = All-map (IsBorder zones) (border_of zones version) rows are.borders;
      } in
      rw is.says whole
