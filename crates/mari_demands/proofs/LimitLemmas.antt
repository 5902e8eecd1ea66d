-- What lines state of the limits of each border in each run.
use Rattle.std.proofs.Common.{◌≡◌, ◌≢◌, ◌∙◌, ◌+◌, ◌-◌, ◌*◌, ◌/◌, ◌%◌, ◌==◌, ◌<◌, ◌≤◌, ◌⊎◌, ℕ, Bool, true, false, List, [], ◌∷◌, ◌++◌, Option, Some, None, Result, Ok, Err, IfOk, get_or, length, map, arith, refl, ap, sym, inl, inr}
use Rattle.std.specs.Prelude.{is_some, nat_lt, option_map, position, unwrap_or}
use Rattle.std.specs.List.{find, list_any, range_with_len}
use Rattle.std.specs.Option.{option_and_then, option_or}
use Rattle.std.proofs.Math.ListN.{set}
use Rattle.std.proofs.lemmas.Bool.Decides.{eqb_tells, nat_tests}
use Rattle.std.proofs.lemmas.Grind.{get_or-set_at}
use Rattle.std.proofs.lemmas.List.{get_or-set_other, get_or_past}
use Rattle.std.proofs.lemmas.List.Folds.{find-append}
use Rattle.std.proofs.lemmas.List.FromFn.{get_or-map-range_with_len, length-map-range_with_len}
use Rattle.std.proofs.lemmas.Nat.{div-mul-add, mod-mul-add}
use Rattle.std.proofs.lemmas.Bool.{not-false}
use Rattle.mari_rows.specs.Books.{GivesBook, book_in, first_failing}
use Rattle.mari_rows.specs.Fields.{number_in}
use Rattle.mari_rows.specs.Rows.{field_of}
use Rattle.mari_rows.specs.declared.faults.BookFault.{BookFault}
use Rattle.mari_rows.specs.declared.rows.Row.{Row}
use Rattle.mari_rows.proofs.BookFacts.{all-passed, found-below, number-bounds}
use Rattle.mari_rows.proofs.BookLemmas.{book-page}
use Rattle.mari_rows.proofs.FindLemmas.{find-some, kept-none, map-some}
use Rattle.mari_zones.specs.Borders.{zone_named}
use Rattle.mari_zones.specs.declared.borders.BorderBook.{BorderBook}
use Rattle.mari_zones.specs.declared.borders.BorderEnds.{BorderEnds}
use Rattle.mari_zones.specs.declared.zones.ZoneBook.{ZoneBook}
use Rattle.mari_units.proofs.Lists.{same_map}
use Rattle.mari_demands.specs.Demands.{run_at}
use Rattle.mari_demands.specs.LimitPairs.{IsLimitTable, limits_in, limits_there, no_limits, table_of}
use Rattle.mari_demands.specs.Limits.{border_at, is_of, leads, limit_grammar, limit_table, limits_at, name_checks, pair_place, stated}
use Rattle.mari_demands.specs.declared.limits.Limits.{Limits}
use Rattle.mari_demands.proofs.LimitTables.{place-within}

or-none : {X : Type 0} (o : Option X) → option_or o None ≡ o
or-none None = refl
or-none (Some x) = refl

-- a border that is found is one of the book
border-below : (borders : List BorderEnds) (from to : Option ℕ)
    → is_some (option_and_then (λ f. option_and_then (λ t. position (leads f t) borders) to) from) ≡ true
    → unwrap_or (option_and_then (λ f. option_and_then (λ t. position (leads f t) borders) to) from) 0 < length borders
border-below borders None to some = cc some
border-below borders (Some f) None some = cc some
border-below borders (Some f) (Some t) some = found-below (leads f t) borders some

-- limits in range
record AreInRange (limits : Limits) : Type 0 where
  limit : limits.limit ≤ 99999
  back : limits.back ≤ 99999

none-in-range : AreInRange no_limits
none-in-range = record { limit = omega arith; back = omega arith }

-- the limits that a line states are in range
line-in-range : (row : Row) → AreInRange (limits_at row)
line-in-range row = by (number_in 0 99999 (field_of row 3)) refl (number_in 0 99999 (field_of row 4)) refl
  where
    most : (text : List ℕ) (n : ℕ) → number_in 0 99999 text ≡ Some n → n ≤ 99999
    most text n e = let bounds = number-bounds 0 99999 text (ap is_some e) in rw e at bounds.1

    by : (limit : Option ℕ) → number_in 0 99999 (field_of row 3) ≡ limit → (back : Option ℕ) → number_in 0 99999 (field_of row 4) ≡ back
        → AreInRange (unwrap_or (option_and_then (λ l. option_map (λ b. record { limit = l; back = b }) back) limit) no_limits)
    by None e back f = none-in-range
    by (Some l) e None f = none-in-range
    by (Some l) e (Some b) f = record { limit = most (field_of row 3) l e; back = most (field_of row 4) b f }

module _ (zones : ZoneBook) (borders : BorderBook) (runs : ℕ) where
  -- a line names one of the runs and one of the borders
  pub record IsNamed (line : Row) : Type 0 where
    pub first : 1 ≤ run_at runs line
    pub last : run_at runs line ≤ runs
    pub border : border_at zones borders line < length borders.borders

  pub named : (line : Row) → first_failing (name_checks zones borders runs line) ≡ None → IsNamed line
  named line none =
      let all = all-passed (name_checks zones borders runs line) none in
      let run = number-bounds 1 runs (field_of line 0) (not-false _ all.1.0) in
      record {
        first = run.0;
        last = run.1;
        border = border-below borders.borders (zone_named zones (field_of line 1)) (zone_named zones (field_of line 2)) (not-false _ all.1.1.0);
      }

  -- what is kept of each border in each run is what lines state
  abbrev pub Keeps : List Row → List (Option Limits) → Type 0
  Keeps rows limits = (run border : ℕ) → run < runs → border < length borders.borders
      → get_or limits (run * length borders.borders + border) None ≡ stated zones borders runs rows (run + 1) border

  module _ (rows : List Row) (limits : List (Option Limits)) (line : Row) (keeps : Keeps rows limits) (is : IsNamed line) where
    -- something is kept of the run and border of one more line exactly where an earlier line is of them
    pub kept-again : is_some (get_or limits (pair_place zones borders runs line) None)
        ≡ list_any (is_of zones borders runs (run_at runs line) (border_at zones borders line)) rows
    kept-again =
        let run = run_at runs line in
        let border = border_at zones borders line in
        let same : (run - 1) + 1 ≡ run = omega (arith, is.first) in
        ap is_some (keeps (run - 1) border (omega (arith, is.first, is.last)) is.border)
        ∙ map-some limits_at (find (is_of zones borders runs ((run - 1) + 1) border) rows)
        ∙ find-some (is_of zones borders runs ((run - 1) + 1) border) rows
        ∙ ap (λ n. list_any (is_of zones borders runs n border) rows) same

    module _ (sized : length limits ≡ runs * length borders.borders) where
      pub place-below : pair_place zones borders runs line < length limits
      place-below = rw sized (place-within runs (length borders.borders) (run_at runs line - 1) (border_at zones borders line) (omega (arith, is.first, is.last)) is.border)

      -- the limits of one more line are kept at its place
      pub keeps-more : is_some (get_or limits (pair_place zones borders runs line) None) ≡ false
          → Keeps (rows ++ line ∷ []) (set limits (pair_place zones borders runs line) (Some (limits_at line)))
      keeps-more new run border r b = by (eqb_tells (run_at runs line) (run + 1)) (eqb_tells (border_at zones borders line) border)
        where
          count : ℕ
          count = length borders.borders

          test : Row → Bool
          test = is_of zones borders runs (run + 1) border

          value : Option Limits
          value = Some (limits_at line)

          Goal : Type 0
          Goal = get_or (set limits (pair_place zones borders runs line) value) (run * count + border) None ≡ option_map limits_at (find test (rows ++ line ∷ []))

          here : test line ≡ true → run * count + border ≡ pair_place zones borders runs line → Goal
          here hit same =
              let absent : find test rows ≡ None = kept-none (find test rows)
              (sym (map-some limits_at (find test rows)) ∙ ap is_some (sym (keeps run border r b))
              ∙ ap (λ k. is_some (get_or limits k None)) same ∙ new) in
              get_or-set_at limits (pair_place zones borders runs line) (run * count + border) value None same place-below
              ∙ sym (rw (find-append test rows (line ∷ []), absent, hit) refl)

          elsewhere : test line ≡ false → run * count + border ≢ pair_place zones borders runs line → Goal
          elsewhere miss other =
              get_or-set_other limits (pair_place zones borders runs line) (run * count + border) value None other
              ∙ keeps run border r b
              ∙ sym (rw (find-append test rows (line ∷ []), miss, or-none (find test rows)) refl)

          same-run : run * count + border ≡ pair_place zones borders runs line → run_at runs line ≡ run + 1
          same-run e =
              let q : run ≡ run_at runs line - 1 =
              sym (div-mul-add run count border b) ∙ ap (λ n. n / count) e ∙ div-mul-add (run_at runs line - 1) count (border_at zones borders line) is.border in
              omega (arith, q, is.first)

          same-border : run * count + border ≡ pair_place zones borders runs line → border_at zones borders line ≡ border
          same-border e =
              sym (sym (mod-mul-add run count border b) ∙ ap (λ n. n % count) e ∙ mod-mul-add (run_at runs line - 1) count (border_at zones borders line) is.border)

          by : ((run_at runs line == run + 1) ≡ true) × (run_at runs line ≡ run + 1) ⊎ ((run_at runs line == run + 1) ≡ false) × (run_at runs line ≢ run + 1)
              → ((border_at zones borders line == border) ≡ true) × (border_at zones borders line ≡ border)
              ⊎ ((border_at zones borders line == border) ≡ false) × (border_at zones borders line ≢ border)
              → Goal
          by (inl a) (inl d) =
              let e : run ≡ run_at runs line - 1 = omega (arith, a.1) in
              here (rw (a.0, d.0) refl) (ap (λ n. n * count + border) e ∙ ap (λ n. (run_at runs line - 1) * count + n) (sym d.1))
          by (inl a) (inr d) = elsewhere (rw (a.0, d.0) refl) (λ e. d.1 (same-border e))
          by (inr a) d = elsewhere (rw a.0 refl) (λ e. a.1 (same-run e))

  -- what is kept of all lines is their table
  pub kept-table : (rows : List Row) (limits : List (Option Limits)) → Keeps rows limits → table_of runs (length borders.borders) limits ≡ limit_table zones borders runs rows
  kept-table rows limits keeps =
      same_map (λ run. map (λ border. limits_there limits (run * length borders.borders + border)) (range_with_len 0 (length borders.borders)))
      (λ run. map (λ border. unwrap_or (stated zones borders runs rows (run + 1) border) no_limits) (range_with_len 0 (length borders.borders))) runs
      (λ run r. same_map (λ border. limits_there limits (run * length borders.borders + border)) (λ border. unwrap_or (stated zones borders runs rows (run + 1) border) no_limits)
      (length borders.borders) (λ border b. ap (λ o. unwrap_or o no_limits) (keeps run border r b)))

  stated-in-range : (o : Option Row) → AreInRange (unwrap_or (option_map limits_at o) no_limits)
  stated-in-range None = none-in-range
  stated-in-range (Some row) = line-in-range row

  abbrev row-of : List Row → ℕ → List Limits
  row-of rows run = map (λ border. unwrap_or (stated zones borders runs rows (run + 1) border) no_limits) (range_with_len 0 (length borders.borders))

  -- each pair of the table is in range
  table-in-range : (rows : List Row) (run border : ℕ) → AreInRange (limits_in (limit_table zones borders runs rows) run border)
  table-in-range rows run border = by (nat_lt (run - 1) runs) refl
    where
      pair : ℕ → Limits
      pair k = unwrap_or (stated zones borders runs rows (run - 1 + 1) k) no_limits

      inside : (b : Bool) → nat_lt border (length borders.borders) ≡ b → AreInRange (get_or (row-of rows (run - 1)) border no_limits)
      inside true e = rw (get_or-map-range_with_len pair 0 (length borders.borders) border border no_limits (grind (arith, nat_tests, e)) (omega arith))
          (stated-in-range (find (is_of zones borders runs (run - 1 + 1) border) rows))
      inside false e = rw (get_or_past (row-of rows (run - 1)) border no_limits
          (rw (length-map-range_with_len pair 0 (length borders.borders)) (grind (arith, nat_tests, e)))) none-in-range

      by : (b : Bool) → nat_lt (run - 1) runs ≡ b → AreInRange (limits_in (limit_table zones borders runs rows) run border)
      by true e = rw (get_or-map-range_with_len (row-of rows) 0 runs (run - 1) (run - 1) [] (grind (arith, nat_tests, e)) (omega arith))
          (inside (nat_lt border (length borders.borders)) refl)
      by false e = rw (get_or_past (limit_table zones borders runs rows) (run - 1) []
          (rw (length-map-range_with_len (row-of rows) 0 runs) (grind (arith, nat_tests, e)))) none-in-range

  -- what is read is such a table
  pub limit-facts : (page : List ℕ) (result : Result (List (List Limits)) BookFault) → GivesBook result (book_in (limit_grammar zones borders runs) page)
      → IfOk result (IsLimitTable runs (length borders.borders))
  limit-facts page (Err fault) gives = tt
  limit-facts page (Ok book) gives =
      let read = book-page (limit_grammar zones borders runs) page book gives in
      let rows : List Row = read.0 in
      let whole : IsLimitTable runs (length borders.borders) (limit_table zones borders runs rows) = record {
        runs_there = length-map-range_with_len (row-of rows) 0 runs;
        borders_there = λ run r.
            ap length (get_or-map-range_with_len (row-of rows) 0 runs run run [] r (omega arith))
            ∙ length-map-range_with_len (λ border. unwrap_or (stated zones borders runs rows (run + 1) border) no_limits) 0 (length borders.borders);
        limit = λ run border. (table-in-range rows run border).limit;
        back = λ run border. (table-in-range rows run border).back;
      } in
      rw read.2.says whole
