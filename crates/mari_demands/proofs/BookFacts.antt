-- What holds of every book of runs or demands that is read.
use Rattle.std.proofs.Common.{◌≡◌, ◌+◌, ◌≤◌, ◌<◌, ◌==◌, ℕ, Bool, true, false, List, [], ◌∷◌, ◌++◌, Option, Some, None, Ok, Err, Result, IfOk, IfSome, map, length, length-append, refl, arith, if◌then◌else◌}
use Rattle.std.specs.Prelude.{ℤ, pos, negsuc, neg_ℤ, int_le, not, ◌&&◌, ◌||◌, nat_le, nat_lt, is_some, unwrap_or, count_by, unsigned_abs}
use Rattle.std.specs.List.{All, AllPairs}
use Rattle.std.specs.Option.{option_and_then}
use Rattle.std.specs.Str.{bytes_eq}
use Rattle.std.proofs.lemmas.Bool.Decides.{nat_tests}
use Rattle.std.proofs.lemmas.Int.{ints}
use Rattle.std.proofs.lemmas.List.{length-map, map-append}
use Rattle.std.proofs.lemmas.List.Quantifiers.{all_pairs_push}
use Rattle.std.proofs.lemmas.List.Sums.{fold-append}
use Rattle.std.proofs.lemmas.List.Elements.{All-map, All-nil, All-push, All-weaker}
use Rattle.mari_units.specs.Numbers.{whole_of}
use Rattle.mari_units.specs.Prices.{IsCapped}
use Rattle.mari_units.specs.declared.numbers.Cents.{Cents}
use Rattle.mari_rows.specs.Books.{GivesBook, book_in, first_failing}
use Rattle.mari_rows.specs.Fields.{cents_in, number_in, within}
use Rattle.mari_rows.specs.Rows.{field_of}
use Rattle.mari_rows.specs.declared.faults.BookFault.{BookFault}
use Rattle.mari_rows.specs.declared.rows.Row.{Row}
use Rattle.mari_rows.proofs.BookLemmas.{book-page}
use Rattle.mari_rows.proofs.BookFacts.{all-passed, along-lines, count_by-map, counts-at-most, found-below, number-bounds, price-within, read-within}
use Rattle.std.proofs.lemmas.Bool.{and_parts, or_parts, not-false}
use Rattle.mari_zones.specs.declared.zones.ZoneBook.{ZoneBook}
use Rattle.mari_demands.specs.Runs.{IsBefore, IsRun, IsRunBook, comes_too_late, is_direct, is_number_below, last_quarter, quarter_at, quarter_in, run_book, run_checks, run_grammar, run_of}
use Rattle.mari_demands.specs.declared.runs.Run.{Run}
use Rattle.mari_demands.specs.Demands.{IsDemand, IsDemandBook, demand_book, demand_grammar, demand_of, is_inelastic, line_checks, mw_in, run_at, within_mw}
use Rattle.mari_demands.specs.declared.runs.RunBook.{RunBook}
use Rattle.mari_demands.specs.declared.demands.Demand.{Demand}
use Rattle.mari_demands.specs.declared.demands.DemandBook.{DemandBook}

-- a quarter that a line states, after a run of a quarter that it doesn't come too late for
in_time : (quarters last : ℕ) (row : Row) → is_some (quarter_in quarters row) ≡ true → comes_too_late (Some last) row ≡ false
    → (last ≤ quarter_at quarters row) × (unwrap_or (is_direct row) false ≡ false → last < quarter_at quarters row)
in_time quarters last row some fits = by (whole_of (field_of row 1)) some fits
  where
    later : (n : ℕ) (direct : Bool) → nat_lt n last ≡ false → (not direct && is_some (if nat_le last n && nat_le n last then Some n else None)) ≡ false → (last ≤ n) × (direct ≡ false → last < n)
    later n true low same = (grind (arith, nat_tests, low), λ e. absurd (cc e))
    later n false low same = (grind (arith, nat_tests, low), λ e. apart (nat_le last n) refl (nat_le n last) refl same)
      where
        apart : (b : Bool) → nat_le last n ≡ b → (c : Bool) → nat_le n last ≡ c → is_some (if b && c then Some n else None) ≡ false → last < n
        apart true e true f s = cc s
        apart true e false f s = grind (arith, nat_tests, f)
        apart false e c f s = grind (arith, nat_tests, e, low)

    either : (n : ℕ) (b c direct : Bool) → nat_le 1 n ≡ b → nat_le n quarters ≡ c → is_some (if b && c then Some n else None) ≡ true
        → (nat_lt n last || (not direct && is_some (if nat_le last n && nat_le n last then Some n else None))) ≡ false
        → (last ≤ unwrap_or (if b && c then Some n else None) 0) × (direct ≡ false → last < unwrap_or (if b && c then Some n else None) 0)
    either n true true direct e f s late = split (nat_lt n last) refl late
      where
        split : (b : Bool) → nat_lt n last ≡ b → (b || (not direct && is_some (if nat_le last n && nat_le n last then Some n else None))) ≡ false → (last ≤ n) × (direct ≡ false → last < n)
        split true g h = cc h
        split false g h = later n direct g h
    either n true false direct e f s late = cc s
    either n false c direct e f s late = cc s

    by : (z : Option ℤ) → is_some (option_and_then (within 1 quarters) z) ≡ true
        → (is_number_below last z || (not (unwrap_or (is_direct row) false) && is_some (option_and_then (within last last) z))) ≡ false
        → (last ≤ unwrap_or (option_and_then (within 1 quarters) z) 0) × (unwrap_or (is_direct row) false ≡ false → last < unwrap_or (option_and_then (within 1 quarters) z) 0)
    by None s late = cc s
    by (Some (negsuc n)) s late = cc s
    by (Some (pos n)) s late = either n (nat_le 1 n) (nat_le n quarters) (unwrap_or (is_direct row) false) refl refl s late

module _ (quarters : ℕ) where
  -- what holds of the lines of runs so far
  record AreRuns (rows : List Row) : Type 0 where
    few : length rows ≤ 1000
    runs : All (λ row. IsRun quarters (run_of quarters row)) rows
    bounded : All (λ (run : Run). run.quarter ≤ unwrap_or (last_quarter quarters rows) 0) (map (run_of quarters) rows)
    in_order : AllPairs IsBefore (map (run_of quarters) rows)

  -- a run after one that is in time
  after : (a : Run) (line : Row) (last : Option ℕ) → a.quarter ≤ unwrap_or last 0 → is_some (quarter_in quarters line) ≡ true → 1 ≤ quarter_at quarters line → comes_too_late last line ≡ false
      → IsBefore a (run_of quarters line)
  after a line None most some one fits = record { quarter = omega (arith, most); scheduled = λ e. omega (arith, most, one) }
  after a line (Some last) most some one fits =
      let later = in_time quarters last line some fits in
      record { quarter = omega (arith, most, later.0); scheduled = λ e. omega (arith, most, later.1 e) }

  one-run : (before : List Row) (line : Row) → first_failing (run_checks quarters before line) ≡ None → AreRuns before → AreRuns (before ++ line ∷ [])
  one-run before line none so_far =
      let all = all-passed (run_checks quarters before line) none in
      let stated = not-false _ all.1.1.1.0 in
      let quarter = number-bounds 1 quarters (field_of line 1) stated in
      let room : length before < 1000 = grind (arith, nat_tests, all.0) in
      let in_time = or_parts (not (is_some (number_in (length before + 1) (length before + 1) (field_of line 0)))) (comes_too_late (last_quarter quarters before) line) all.1.1.0 in
      let next : (a : Run) → a.quarter ≤ unwrap_or (last_quarter quarters before) 0
      → IsBefore a (run_of quarters line) = λ a most. after a line (last_quarter quarters before) most stated quarter.0 in_time.1 in
      let last : last_quarter quarters (before ++ line ∷ []) ≡ Some (quarter_at quarters line) = fold-append (λ before row. Some (quarter_at quarters row)) None before (line ∷ []) in
      record {
        few = simp length-append (omega (arith, room));
        runs = All-push (λ row. IsRun quarters (run_of quarters row)) before line so_far.runs
            (record { first_quarter = quarter.0; last_quarter = quarter.1; reference = read-within (field_of line 3) (record { 0 = pos 0 }) (not-false _ all.1.1.1.1.0) });
        bounded = rw (last, map-append (run_of quarters) before (line ∷ [])) (All-push (λ (run : Run). run.quarter ≤ quarter_at quarters line) (map (run_of quarters) before) (run_of quarters line)
            (All-weaker (λ (run : Run). run.quarter ≤ unwrap_or (last_quarter quarters before) 0) (λ (run : Run). run.quarter ≤ quarter_at quarters line) (λ run most. (next run most).quarter)
            (map (run_of quarters) before) so_far.bounded) (omega arith));
        in_order = rw (map-append (run_of quarters) before (line ∷ [])) (all_pairs_push IsBefore (map (run_of quarters) before) (run_of quarters line) so_far.in_order
            (λ k d l. next _ (so_far.bounded k d l)));
      }

  -- what is read is such a book of runs
  pub run-facts : (page : List ℕ) (result : Result RunBook BookFault) → GivesBook result (book_in (run_grammar quarters) page) → IfOk result (IsRunBook quarters)
  run-facts page (Err fault) gives = tt
  run-facts page (Ok book) gives =
      let read = book-page (run_grammar quarters) page book gives in
      let rows : List Row = read.0 in
      let is = read.2 in
      let are = along-lines (run_grammar quarters) AreRuns one-run rows book is (record {
        few = omega arith;
        runs = All-nil (λ row. IsRun quarters (run_of quarters row));
        bounded = All-nil (λ (run : Run). run.quarter ≤ 0);
        in_order = λ i j d l m. absurd (omega arith);
      }) in
      let whole : IsRunBook quarters (run_book quarters rows) = record {
        few = simp length-map are.few;
        runs = All-map (IsRun quarters) (run_of quarters) rows are.runs;
        in_order = are.in_order;
      } in
      rw is.says whole

-- a quantity that a line states is in range
mw-within : (row : Row) → is_some (mw_in row) ≡ true → unsigned_abs (unwrap_or (mw_in row) (pos 0)) ≤ 99999
mw-within row some = by (whole_of (field_of row 2)) some
  where
    tested : (z : ℤ) (b c : Bool) → int_le (neg_ℤ (pos 99999)) z ≡ b → int_le z (pos 99999) ≡ c → is_some (if b && c then Some z else None) ≡ true
        → unsigned_abs (unwrap_or (if b && c then Some z else None) (pos 0)) ≤ 99999
    tested z true true low high s = grind (arith, ints, low, high)
    tested z true false low high s = cc s
    tested z false c low high s = cc s

    by : (z : Option ℤ) → is_some (option_and_then within_mw z) ≡ true → unsigned_abs (unwrap_or (option_and_then within_mw z) (pos 0)) ≤ 99999
    by None s = cc s
    by (Some z) s = tested z (int_le (neg_ℤ (pos 99999)) z) (int_le z (pos 99999)) refl refl s

-- a price that a field states is within the cap
stated-price : (text : List ℕ) → IfSome (cents_in text) IsCapped
stated-price text = by (cents_in text) refl
  where
    by : (o : Option Cents) → cents_in text ≡ o → IfSome o IsCapped
    by None e = tt
    by (Some price) e = price-within text price e

module _ (zones : ZoneBook) (runs : ℕ) where
  -- what holds of the lines of demands so far
  record AreDemands (rows : List Row) : Type 0 where
    demands : All (λ row. IsDemand zones runs (demand_of zones runs row)) rows
    counts : (k : ℕ) → count_by (λ row. run_at runs row == k) rows ≤ 512

  one-demand : (before : List Row) (line : Row) → first_failing (line_checks zones runs before line) ≡ None → AreDemands before → AreDemands (before ++ line ∷ [])
  one-demand before line none so_far =
      let all = all-passed (line_checks zones runs before line) none in
      let run = number-bounds 1 runs (field_of line 0) (not-false _ all.1.0) in
      let numbers = and_parts (is_some (mw_in line)) (is_inelastic line || is_some (cents_in (field_of line 3))) (not-false _ all.1.1.1.0) in
      record {
        demands = All-push (λ row. IsDemand zones runs (demand_of zones runs row)) before line so_far.demands
            (record {
              first_run = run.0;
              last_run = run.1;
              zone = found-below (bytes_eq (field_of line 1)) zones.zones (not-false _ all.1.1.0);
              mw = mw-within line numbers.0;
              price = stated-price (field_of line 3);
            });
        counts = counts-at-most (run_at runs) 512 before line all.1.1.1.1.0 so_far.counts;
      }

  -- what is read is such a book of demands
  pub demand-facts : (page : List ℕ) (result : Result DemandBook BookFault) → GivesBook result (book_in (demand_grammar zones runs) page) → IfOk result (IsDemandBook zones runs)
  demand-facts page (Err fault) gives = tt
  demand-facts page (Ok book) gives =
      let read = book-page (demand_grammar zones runs) page book gives in
      let rows : List Row = read.0 in
      let is = read.2 in
      let are = along-lines (demand_grammar zones runs) AreDemands one-demand rows book is (record {
        demands = All-nil (λ row. IsDemand zones runs (demand_of zones runs row));
        counts = λ k. omega arith;
      }) in
      let whole : IsDemandBook zones runs (demand_book zones runs rows) = record {
        demands = All-map (IsDemand zones runs) (demand_of zones runs) rows are.demands;
        of_run = λ run. rw (count_by-map (demand_of zones runs) (λ (demand : Demand). demand.run == run) rows) (are.counts run);
      } in
      rw is.says whole
