-- The page of borders is a book.
use Rattle.std.proofs.Common.{◌≡◌, ◌<◌, ◌+◌, ◌∙◌, ◌==◌, ℕ, true, false, List, [], ◌∷◌, ◌++◌, Some, Ok, decimal, length, map, refl, sym, ap, append-nil, arith}
use Rattle.std.specs.Prelude.{is_some, ◌&&◌, unwrap_or}
use Rattle.std.specs.Fmt.{digits}
use Rattle.std.specs.List.{flat_map, list_all, list_any}
use Rattle.std.proofs.lemmas.Bool.Decides.{nat_tests}
use Rattle.std.proofs.lemmas.List.{length-map}
use Rattle.csv.specs.Reading.{strip_bom}
use Rattle.mari_rows.specs.Fields.{number_in}
use Rattle.mari_rows.specs.Printed.{line_of}
use Rattle.mari_rows.specs.declared.rows.Row.{Row}
use Rattle.mari_rows.proofs.BookFacts.{none-fails}
use Rattle.mari_rows.proofs.NumberLemmas.{decimal_in}
use Rattle.mari_rows.proofs.PrintedLemmas.{AreColumns, is_plain_field, is_plain_record, number-plain, records-read}
use Rattle.mari_zones.specs.Borders.{bare_columns, border_book, border_checks, border_columns, border_grammar, border_of, borders_in, is_between_same, version_in, zone_named}
use Rattle.mari_zones.specs.declared.borders.BorderBook.{BorderBook}
use Rattle.mari_scenario.specs.Draws.{draw, lines}
use Rattle.mari_scenario.specs.Pages.{border_line, borders_at, from_of, to_of, zone}
use Rattle.mari_scenario.proofs.Accepting.{Passes, accepted, drawn, drawn-plain, drawn-text, one-line, rows, rows-length}
use Rattle.mari_scenario.proofs.DrawBounds.{draw-lt}
use Rattle.mari_scenario.proofs.Places.{first-ten}
use Rattle.mari_scenario.proofs.ZonePage.{the_zones}

-- the limits of a border
abbrev limit : ℕ → ℕ
limit x = 20 + draw 1 80 x

abbrev back : ℕ → ℕ
back x = 20 + draw 2 80 x

-- a line's fields
abbrev border_fields : (i state : ℕ) → List (List ℕ)
border_fields i x = zone (from_of i) ∷ zone (to_of i) ∷ decimal (limit x) ∷ decimal (back x) ∷ []

abbrev border_records : (i state : ℕ) → List (List (List ℕ))
border_records i x = border_fields i x ∷ []

abbrev border_row : (i state at : ℕ) → Row
border_row i x at = record { line = at; fields = border_fields i x }

zones-plain : (i : ℕ) → i < 10 → (is_plain_field (zone (from_of i)) ≡ true) × (is_plain_field (zone (to_of i)) ≡ true)
unfolding digits
zones-plain = first-ten (λ i. (is_plain_field (zone (from_of i)) ≡ true) × (is_plain_field (zone (to_of i)) ≡ true))
    (refl, refl) (refl, refl) (refl, refl) (refl, refl) (refl, refl) (refl, refl) (refl, refl) (refl, refl) (refl, refl) (refl, refl)

plain-lines : (i x : ℕ) → i < 10 → list_all (is_plain_record 4) (border_records i x) ≡ true
plain-lines i x few =
    rw (
      (zones-plain i few).0,
      (zones-plain i few).1,
      number-plain (limit x) (omega (arith, draw-lt 1 80 x (omega arith))),
      number-plain (back x) (omega (arith, draw-lt 2 80 x (omega arith))),
    ) refl

-- the rows of the first borders
abbrev border_rows : (n state : ℕ) → List Row
border_rows n x = rows border_line border_records n x

length-rows : (n x : ℕ) → length (border_rows n x) ≡ n
length-rows n x = rows-length border_line border_records (λ i x. refl) n x

-- both zones of a border are there, and they differ
ends-known : (i : ℕ) → i < 10 → (is_some (zone_named the_zones (zone (from_of i))) && is_some (zone_named the_zones (zone (to_of i)))) ≡ true
unfolding digits the_zones
ends-known = first-ten (λ i. (is_some (zone_named the_zones (zone (from_of i))) && is_some (zone_named the_zones (zone (to_of i)))) ≡ true)
    refl refl refl refl refl refl refl refl refl refl

ends-apart : (i : ℕ) → i < 10 → (unwrap_or (zone_named the_zones (zone (from_of i))) 0 == unwrap_or (zone_named the_zones (zone (to_of i))) 0) ≡ false
unfolding digits the_zones
ends-apart = first-ten (λ i. (unwrap_or (zone_named the_zones (zone (from_of i))) 0 == unwrap_or (zone_named the_zones (zone (to_of i))) 0) ≡ false)
    refl refl refl refl refl refl refl refl refl refl

-- no earlier border is between the same two zones
new-ends : (x state at n : ℕ) → n < 10 → list_any (is_between_same (border_of the_zones 1 (border_row n state at))) (map (border_of the_zones 1) (border_rows n x)) ≡ false
unfolding digits the_zones lines
new-ends x state at = first-ten (λ n. list_any (is_between_same (border_of the_zones 1 (border_row n state at))) (map (border_of the_zones 1) (border_rows n x)) ≡ false)
    refl refl refl refl refl refl refl refl refl refl

limit-read : (n : ℕ) → n < 80 → number_in 0 99999 (decimal (20 + n)) ≡ Some (20 + n)
limit-read n few = decimal_in 0 99999 (20 + n) (omega arith) (omega arith) (omega arith)

border-passes : (x n : ℕ) → n < 10 → Passes border_line border_records (border_grammar the_zones 1) n x
border-passes x n few =
    one-line border_line border_records (border_grammar the_zones 1) n x (border_fields n state) refl (λ at. none-fails (border_checks the_zones 1 (border_rows n x) (border_row n state at)) (
      (let e = length-rows n x in grind (arith, nat_tests)),
      (
        rw (ends-known n few) refl,
        (
          ends-apart n few,
          (
            new-ends x state at n few,
            (
              rw (limit-read (draw 1 80 state) (draw-lt 1 80 state (omega arith)), limit-read (draw 2 80 state) (draw-lt 2 80 state (omega arith))) refl,
              tt,
            ),
          ),
        ),
      ),
    ))
  where
    state : ℕ
    state = (lines border_line n x).state

pub the_borders : ℕ → BorderBook
the_borders x = border_book the_zones 1 (border_rows 10 x)

-- its page is of version 1
abbrev page : ℕ → List ℕ
page x = border_columns ++ 10 ∷ (borders_at x).text

columns-four : AreColumns border_columns 4
unfolding border_columns strip_bom
columns-four = record { wide = omega arith; plain = refl; unmarked = λ rest. refl }

text-of : (i x : ℕ) → (border_line i x).text ≡ flat_map line_of (border_records i x)
text-of i x = sym (append-nil (line_of (border_fields i x)))

pub version-one : (x : ℕ) → version_in (page x) ≡ 1
unfolding bare_columns border_columns
version-one x =
    ap (λ t. version_in (border_columns ++ 10 ∷ t)) (drawn-text border_line border_records text-of 10 x)
    ∙ rw (records-read border_columns 4 columns-four (drawn border_line border_records 10 x) (drawn-plain border_line border_records 4 10 plain-lines 10 x (omega arith))) refl

pub count-borders : (x : ℕ) → length (the_borders x).borders ≡ 10
unfolding the_borders
count-borders x = length-map (border_rows 10 x) (border_of the_zones 1) ∙ length-rows 10 x

pub borders-accepted : (x : ℕ) → borders_in the_zones (border_columns ++ 10 ∷ (borders_at x).text) ≡ Ok (the_borders x)
unfolding the_borders
borders-accepted x = rw (version-one x) (accepted border_line border_records (border_grammar the_zones 1) 4 10 x columns-four text-of plain-lines (border-passes x) refl)
