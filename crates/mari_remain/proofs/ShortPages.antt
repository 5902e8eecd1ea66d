-- The printed pages are no longer than a page may be.
use Rattle.std.proofs.Common.{◌≡◌, ◌≤◌, ◌<◌, ◌+◌, ◌*◌, ◌&&◌, ℕ, zero, suc, Bool, true, false, List, [], ◌∷◌, length, map, refl, arith, flat_map, nat_le, nat_lt, decimal, length-append}
use Rattle.std.specs.List.{list_all, range_with_len}
use Rattle.std.proofs.lemmas.Bool.{leb-true, ltb-true, and_parts}
use Rattle.std.proofs.lemmas.Bool.Decides.{nat_tests}
use Rattle.std.proofs.lemmas.List.{get_or_past}
use Rattle.std.proofs.lemmas.Fmt.{length-decimal-le}
use Rattle.std.proofs.lemmas.Grind.{flat_map-append}
use Rattle.mari_units.specs.Names.{is_name, is_name_byte}
use Rattle.mari_rows.specs.Names.{name_at}
use Rattle.mari_rows.specs.Printed.{line_of}
use Rattle.mari_rows.proofs.PrintedLemmas.{length-line}
use Rattle.mari_zones.specs.Borders.{bare_columns}
use Rattle.mari_zones.specs.Zones.{IsZoneBook}
use Rattle.mari_zones.specs.declared.borders.BorderEnds.{BorderEnds}
use Rattle.mari_zones.specs.declared.zones.ZoneBook.{ZoneBook}
use Rattle.mari_demands.specs.Limits.{limit_columns}
use Rattle.mari_remain.specs.declared.books.Books.{Books}
use Rattle.mari_remain.specs.Accepted.{IsAccepted}
use Rattle.mari_remain.specs.Migrated.{border_record, borders_page, limit_record, limits_page, run_records}
use Rattle.mari_remain.specs.RunMarket.{ends_at, run_limits}
use Rattle.mari_remain.proofs.Validity.{in_range}

short-name : (name : List ℕ) → is_name name ≡ true → length name ≤ 16
short-name name e =
    let parts = and_parts (nat_le 1 (length name) && nat_le (length name) 16) (list_all is_name_byte name) e in
    leb-true (length name) 16 ((and_parts (nat_le 1 (length name)) (nat_le (length name) 16) parts.0).1)

short-zone : (zones : ZoneBook) → IsZoneBook zones → (i : ℕ) → length (name_at zones.zones i) ≤ 16
short-zone zones is i = by (nat_lt i (length zones.zones)) refl
  where
    by : (b : Bool) → nat_lt i (length zones.zones) ≡ b → length (name_at zones.zones i) ≤ 16
    by true e = short-name (name_at zones.zones i) (is.zones i [] (ltb-true i (length zones.zones) e))
    by false e = rw (get_or_past zones.zones i [] (grind (arith, nat_tests))) (omega arith)

short-lines : (zones : ZoneBook) → IsZoneBook zones → (borders : List BorderEnds) → length (flat_map line_of (map (border_record zones) borders)) ≤ 34 * length borders
short-lines zones is [] = omega arith
short-lines zones is (x ∷ xs) =
    let line = line_of (border_record zones x) in
    let rest = flat_map line_of (map (border_record zones) xs) in
    let here : length line ≤ 34 = omega (arith, length-line (name_at zones.zones x.from) (name_at zones.zones x.to ∷ []), short-zone zones is x.from, short-zone zones is x.to) in
    rw (length-append line rest) (omega (arith, here, short-lines zones is xs))

-- `count` lines of at most 51 bytes
some-lines : (fields : ℕ → List (List ℕ)) (first count : ℕ) → ((k : ℕ) → first ≤ k → k < first + count → length (line_of (fields k)) ≤ 51)
    → length (flat_map line_of (map fields (range_with_len first count))) ≤ 51 * count
some-lines fields first zero short = omega arith
some-lines fields first (suc count) short =
    let rest = flat_map line_of (map fields (range_with_len (first + 1) count)) in
    let more = some-lines fields (first + 1) count (λ k low high. short k (omega (arith, low)) (omega (arith, high))) in
    rw (length-append (line_of (fields first)) rest) (omega (arith, short first (omega arith) (omega arith), more))

module _ (books : Books) (ok : IsAccepted books) where
  short-line : (run border : ℕ) → run ≤ 1000 → border < length books.borders.borders
      → length (line_of (limit_record books.zones run (ends_at books.borders.borders border) (run_limits books run border))) ≤ 51
  short-line run border last within =
      let ends = ends_at books.borders.borders border in
      let limits = run_limits books run border in
      let small = in_range books books.limits run border ok.limits (ok.borders.borders border _ within) in
      omega (
        arith,
        length-line (decimal run) (name_at books.zones.zones ends.from ∷ name_at books.zones.zones ends.to ∷ decimal limits.limit ∷ decimal limits.back ∷ []),
        short-zone books.zones ok.zones ends.from,
        short-zone books.zones ok.zones ends.to,
        length-decimal-le 4 run (omega arith) (omega (arith, last)) (omega (arith, last)),
        length-decimal-le 5 limits.limit (omega arith) (omega (arith, small.0)) (omega (arith, small.0)),
        length-decimal-le 5 limits.back (omega arith) (omega (arith, small.1)) (omega (arith, small.1)),
      )

  short-runs : (first count : ℕ) → first + count ≤ 1001 → length (flat_map line_of (flat_map (run_records books) (range_with_len first count))) ≤ 13056 * count
  short-runs first zero few = omega arith
  short-runs first (suc count) few =
      let here = run_records books first in
      let rest = flat_map (run_records books) (range_with_len (first + 1) count) in
      let now : length (flat_map line_of here) ≤ 51 * length books.borders.borders =
      some-lines (λ k. limit_record books.zones first (ends_at books.borders.borders k) (run_limits books first k)) 0 (length books.borders.borders)
      (λ k low high. short-line first k (omega (arith, few)) (omega (arith, high))) in
      rw (flat_map-append line_of here rest, length-append (flat_map line_of here) (flat_map line_of rest))
      (omega (arith, now, ok.borders.few, short-runs (first + 1) count (omega (arith, few))))

  pub short-borders : length (borders_page books) ≤ 268435456
  unfolding bare_columns
  short-borders = omega (arith, short-lines books.zones ok.zones books.borders.borders, ok.borders.few)

  pub short-limits : length (limits_page books) ≤ 268435456
  unfolding limit_columns
  short-limits = omega (arith, short-runs 1 (length books.runs.runs) (omega (arith, ok.runs.few)), ok.runs.few)
