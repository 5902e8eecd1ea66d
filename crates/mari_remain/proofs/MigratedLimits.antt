-- The printed page of limits is read as the limits that the books state for each run.
use Rattle.std.proofs.Common.{◌≡◌, ◌≢◌, ◌∙◌, ◌≤◌, ◌<◌, ◌+◌, ◌-◌, ◌^◌, ◌==◌, ◌&&◌, ◌||◌, ◌⊎◌, ℕ, zero, suc, Bool, true, false, List, [], ◌∷◌, ◌++◌, Some, None, Ok, All, length, map, refl, sym, ap, arith, append_assoc, is_some, flat_map, position, unwrap_or, option_map, inl, inr, find, not, get_or, le_refl, add-zero, zero-add, length-append}
use Rattle.std.specs.List.{list_all, list_any, range_with_len}
use Rattle.std.proofs.lemmas.Bool.{eq-eqb, eqb-true, ne_eqb}
use Rattle.std.proofs.lemmas.Bool.Decides.{eqb_tells}
use Rattle.std.proofs.lemmas.List.{length-map, map-append}
use Rattle.std.proofs.lemmas.Simd.{map-map}
use Rattle.std.proofs.lemmas.List.Folds.{list_any-append}
use Rattle.std.proofs.lemmas.List.FromFn.{get_or-map-range_with_len}
use Rattle.csv.specs.Reading.{strip_bom}
use Rattle.mari_units.specs.Numbers.{whole_of}
use Rattle.mari_rows.specs.Books.{book_in, first_failing, line_refusal}
use Rattle.mari_rows.specs.First.{first_fault_after}
use Rattle.mari_rows.specs.Printed.{page_text}
use Rattle.mari_rows.specs.Rows.{field_of, rows_from}
use Rattle.mari_rows.specs.declared.rows.Row.{Row}
use Rattle.mari_rows.proofs.BookFacts.{none-fails}
use Rattle.mari_rows.proofs.BookLemmas.{book-read, row-passes}
use Rattle.mari_rows.proofs.NameLemmas.{list_any-map, position-after, position-map}
use Rattle.mari_rows.proofs.NumberLemmas.{decimal_in}
use Rattle.mari_rows.proofs.PrintedLemmas.{AreColumns, is_plain_record, number-plain, page-rows}
use Rattle.mari_zones.specs.Borders.{IsBorder, is_between_same}
use Rattle.mari_zones.specs.Zones.{IsZoneBook}
use Rattle.mari_zones.specs.declared.borders.BorderBook.{BorderBook}
use Rattle.mari_zones.specs.declared.borders.BorderEnds.{BorderEnds}
use Rattle.mari_zones.specs.declared.zones.ZoneBook.{ZoneBook}
use Rattle.mari_demands.specs.Demands.{run_at, run_in}
use Rattle.mari_demands.specs.LimitPairs.{limits_in, no_limits}
use Rattle.mari_demands.specs.Limits.{border_at, border_in, is_of, leads, limit_columns, limit_grammar, limit_table, limits_at, limits_of, line_checks}
use Rattle.mari_demands.specs.declared.limits.Limits.{Limits}
use Rattle.mari_remain.specs.Migrated.{limit_record}
use Rattle.mari_remain.specs.RunMarket.{ends_at}
use Rattle.mari_remain.proofs.MigratedBorders.{NoneRepeated, bare, no-way, zone-found, zone-plain}
use Rattle.mari_units.proofs.Digits.{decimal_whole}
use Rattle.mari_units.proofs.Lists.{same_over}

-- a border is the first that leads between its zones, where none is repeated
no-way-in : (x : BorderEnds) (before : List BorderEnds) → list_any (is_between_same x) before ≡ false → list_any (leads x.from x.to) before ≡ false
no-way-in x [] new = refl
no-way-in x (b ∷ bs) new = by (is_between_same x b) refl new (no-way-in x bs)
  where
    by : (t : Bool) → is_between_same x b ≡ t → (t || list_any (is_between_same x) bs) ≡ false
        → (list_any (is_between_same x) bs ≡ false → list_any (leads x.from x.to) bs ≡ false) → list_any (leads x.from x.to) (b ∷ bs) ≡ false
    by true e n more = cc n
    by false e n more = rw (no-way x b e) (more n)

border-found : (before borders : List BorderEnds) (k : ℕ) → NoneRepeated before borders → k < length borders
    → position (leads (ends_at borders k).from (ends_at borders k).to) (before ++ borders) ≡ Some (length before + k)
border-found before [] k none within = absurd (omega (arith, within))
border-found before (x ∷ xs) zero none within =
    position-after (leads x.from x.to) before xs x (no-way-in x before none.0) (rw (eq-eqb x.from x.from refl, eq-eqb x.to x.to refl) refl)
    ∙ ap Some (omega arith)
border-found before (x ∷ xs) (suc k) none within =
    let count : length (before ++ x ∷ []) + k ≡ length before + suc k = grind (arith, length-append) in
    let more = border-found (before ++ x ∷ []) xs k none.1 (omega (arith, within)) in
    rw (append_assoc before (x ∷ []) xs) at more ∙ ap Some count

-- a run and a border
abbrev pub Pair : Type 0
Pair = ℕ × ℕ

abbrev pub is_pair : (run border : ℕ) → Pair → Bool
is_pair run border p = (p.0 == run) && (p.1 == border)

-- the pairs of a run, from a border on, and of all runs from one on
abbrev pub pairs_of : (run first count : ℕ) → List Pair
pairs_of run first count = map (λ border. (run, border)) (range_with_len first count)

module _ (runs borders : ℕ) where
  abbrev pub all_pairs : (first count : ℕ) → List Pair
  all_pairs first count = flat_map (λ run. pairs_of run 0 borders) (range_with_len first count)

  -- a run and a border that are there
  pub record IsThere (p : Pair) : Type 0 where
    pub first : 1 ≤ p.0
    pub last : p.0 ≤ runs
    pub border : p.1 < borders

  -- each is there, and is none of those before it
  abbrev pub AreFresh : (done pairs : List Pair) → Type 0
  AreFresh done [] = Unit {0}
  AreFresh done (p ∷ ps) = IsThere p × (list_any (is_pair p.0 p.1) done ≡ false) × AreFresh (done ++ p ∷ []) ps

  -- no pair from this one on is done
  abbrev pub AreOlder : (run border : ℕ) → List Pair → Type 0
  AreOlder run border done = (r b : ℕ) → (run < r) ⊎ ((run ≡ r) × (border ≤ b)) → list_any (is_pair r b) done ≡ false

  older-push : (run border : ℕ) (done : List Pair) → AreOlder run border done → AreOlder run (border + 1) (done ++ (run, border) ∷ [])
  older-push run border done older r b (inl above) =
      rw (list_any-append (is_pair r b) done ((run, border) ∷ []), older r b (inl above), ne_eqb run r (λ same. absurd (omega (arith, same, above)))) refl
  older-push run border done older r b (inr at) =
      rw (
        list_any-append (is_pair r b) done ((run, border) ∷ []),
        older r b (inr (at.0, omega (arith, at.1))),
        eq-eqb run r at.0,
        ne_eqb border b (λ same. absurd (omega (arith, same, at.1))),
      ) refl

  older-next : (run : ℕ) (done : List Pair) → AreOlder run borders done → AreOlder (run + 1) 0 done
  older-next run done older r b (inl above) = older r b (inl (omega (arith, above)))
  older-next run done older r b (inr at) = older r b (inl (omega (arith, at.0)))

  fresh-run : (run border count : ℕ) (done rest : List Pair) → 1 ≤ run → run ≤ runs → border + count ≡ borders → AreOlder run border done
      → ((more : List Pair) → AreOlder run borders more → AreFresh more rest) → AreFresh done (pairs_of run border count ++ rest)
  fresh-run run border zero done rest first last all older next = next done (rw (sym all, add-zero border) older)
  fresh-run run border (suc count) done rest first last all older next = (
    record { first = first; last = last; border = omega (arith, all) },
    older run border (inr (refl, le_refl border)),
    fresh-run run (border + 1) count (done ++ (run, border) ∷ []) rest first last (omega (arith, all)) (older-push run border done older) next,
  )

  fresh-runs : (run count : ℕ) (done : List Pair) → 1 ≤ run → run + count ≡ runs + 1 → AreOlder run 0 done → AreFresh done (all_pairs run count)
  fresh-runs run zero done first all older = tt
  fresh-runs run (suc count) done first all older =
      fresh-run run 0 borders done (all_pairs (run + 1) count) first (omega (arith, all)) (omega arith) older
      (λ more older. fresh-runs (run + 1) count more (omega arith) (omega (arith, all)) (older-next run more older))

  -- each pair that is there is one of them
  in-run : (run border first count : ℕ) → first ≤ border → border < first + count → list_any (is_pair run border) (pairs_of run first count) ≡ true
  in-run run border first zero low high = absurd (omega (arith, low, high))
  in-run run border first (suc count) low high = by (eqb_tells first border) (λ above. in-run run border (first + 1) count above (omega (arith, high)))
    where
      above : first ≤ border → first ≢ border → first + 1 ≤ border
      above low apart = omega (arith, low, apart)

      by : ((first == border) ≡ true) × (first ≡ border) ⊎ ((first == border) ≡ false) × (first ≢ border)
          → (first + 1 ≤ border → list_any (is_pair run border) (pairs_of run (first + 1) count) ≡ true) → list_any (is_pair run border) (pairs_of run first (suc count)) ≡ true
      by (inl same) more = rw (eq-eqb run run refl, same.0) refl
      by (inr other) more = rw (eq-eqb run run refl, other.0) (more (above low other.1))

  among-runs : (run border first count : ℕ) → first ≤ run → run < first + count → border < borders → list_any (is_pair run border) (all_pairs first count) ≡ true
  among-runs run border first zero low high b = absurd (omega (arith, low, high))
  among-runs run border first (suc count) low high b =
      list_any-append (is_pair run border) (pairs_of first 0 borders) (all_pairs (first + 1) count)
      ∙ by (eqb_tells first run) (λ above. among-runs run border (first + 1) count above (omega (arith, high)) b)
    where
      above : first ≤ run → first ≢ run → first + 1 ≤ run
      above low apart = omega (arith, low, apart)

      some-or : (x : Bool) → (x || true) ≡ true
      some-or true = refl
      some-or false = refl

      by : ((first == run) ≡ true) × (first ≡ run) ⊎ ((first == run) ≡ false) × (first ≢ run)
          → (first + 1 ≤ run → list_any (is_pair run border) (all_pairs (first + 1) count) ≡ true)
          → (list_any (is_pair run border) (pairs_of first 0 borders) || list_any (is_pair run border) (all_pairs (first + 1) count)) ≡ true
      by (inl same) more = rw (same.1, in-run run border 0 borders (omega arith) (omega (arith, b))) refl
      by (inr other) more = rw (more (above low other.1)) (some-or (list_any (is_pair run border) (pairs_of first 0 borders)))

columns-five : AreColumns limit_columns 5
unfolding limit_columns strip_bom
columns-five = record { wide = omega arith; plain = refl; unmarked = λ rest. refl }

module _ (zones : ZoneBook) (is : IsZoneBook zones) (borders : List BorderEnds) (ok : All (IsBorder zones) borders) (none : NoneRepeated [] borders)
    (runs : ℕ) (few : runs ≤ 1000) (limits : (run border : ℕ) → Limits)
    (limit : (run border : ℕ) → border < length borders → (limits run border).limit ≤ 99999) (back : (run border : ℕ) → border < length borders → (limits run border).back ≤ 99999) where
  abbrev pub book : BorderBook
  book = record { borders = map bare borders }

  abbrev pub fields : Pair → List (List ℕ)
  fields p = limit_record zones p.0 (ends_at borders p.1) (limits p.0 p.1)

  module _ (line : ℕ) (p : Pair) (there : IsThere runs (length borders) p) where
    abbrev pub row : Row
    row = record { line = line; fields = fields p }

    small-run : p.0 < 2 ^ 64
    small-run = omega (arith, there.last, few)

    small-limit : (limits p.0 p.1).limit < 2 ^ 64
    small-limit = omega (arith, limit p.0 p.1 there.border)

    small-back : (limits p.0 p.1).back < 2 ^ 64
    small-back = omega (arith, back p.0 p.1 there.border)

    run-read : run_in runs row ≡ Some p.0
    run-read = decimal_in 1 runs p.0 small-run there.first there.last

    border-read : border_in zones book row ≡ Some p.1
    border-read =
        let ends = ends_at borders p.1 in
        let here : IsBorder zones ends = ok p.1 _ there.border in
        rw (zone-found zones is ends.from here.from, zone-found zones is ends.to here.to)
        (position-map bare (leads ends.from ends.to) borders ∙ border-found [] borders p.1 none there.border ∙ ap Some (zero-add p.1))

    limits-read : limits_of row ≡ Some (limits p.0 p.1)
    limits-read =
        rw (
          decimal_in 0 99999 (limits p.0 p.1).limit small-limit (omega arith) (limit p.0 p.1 there.border),
          decimal_in 0 99999 (limits p.0 p.1).back small-back (omega arith) (back p.0 p.1 there.border),
        ) refl

    key-read : (run border : ℕ) → is_of zones book runs run border row ≡ is_pair run border p
    key-read run border = (λ i. (unwrap_or (run-read i) 0 == run) && (unwrap_or (border-read i) 0 == border))

    record-plain : is_plain_record 5 (fields p) ≡ true
    record-plain =
        let ends = ends_at borders p.1 in
        rw (number-plain p.0 small-run, zone-plain zones is ends.from, zone-plain zones is ends.to, number-plain (limits p.0 p.1).limit small-limit, number-plain (limits p.0 p.1).back small-back) refl

  -- the run and the border of a line
  abbrev pub key : Row → Pair
  key row = (run_at runs row, border_at zones book row)

  key-of : (line : ℕ) (p : Pair) (there : IsThere runs (length borders) p) → key (row line p there) ≡ p
  key-of line p there = λ i. (unwrap_or (run-read line p there i) 0, unwrap_or (border-read line p there i) 0)

  -- a line passes its checks after lines of other pairs
  line-passes : (done : List Pair) (earlier : List Row) (line : ℕ) (p : Pair) (there : IsThere runs (length borders) p) → map key earlier ≡ done
      → list_any (is_pair p.0 p.1) done ≡ false → first_failing (line_checks zones book runs earlier (row line p there)) ≡ None
  line-passes done earlier line p there same new =
      let at = row line p there in
      let numbers : (is_some (whole_of (field_of at 0)) && is_some (whole_of (field_of at 3)) && is_some (whole_of (field_of at 4))) ≡ true =
      rw (decimal_whole p.0 (small-run line p there), decimal_whole (limits p.0 p.1).limit (small-limit line p there), decimal_whole (limits p.0 p.1).back (small-back line p there)) refl in
      let fresh : list_any (is_of zones book runs (run_at runs at) (border_at zones book at)) earlier ≡ false =
      sym (list_any-map key (is_pair (run_at runs at) (border_at zones book at)) earlier)
      ∙ (λ i. list_any (is_pair (key-of line p there i).0 (key-of line p there i).1) (same i)) ∙ new in
      none-fails (line_checks zones book runs earlier at) (
        ap not numbers,
        (ap (λ o. not (is_some o)) (run-read line p there), (ap (λ o. not (is_some o)) (border-read line p there), (fresh, (ap (λ o. not (is_some o)) (limits-read line p there), tt)))),
      )

  no-refusal : (done pairs : List Pair) (earlier : List Row) (line : ℕ) → map key earlier ≡ done → AreFresh runs (length borders) done pairs
      → first_fault_after (line_refusal (limit_grammar zones book runs)) earlier (rows_from line (map fields pairs)) ≡ None
  no-refusal done [] earlier line same fresh = refl
  no-refusal done (p ∷ ps) earlier line same fresh =
      let at = row line p fresh.0 in
      let longer : map key (earlier ++ at ∷ []) ≡ done ++ p ∷ [] = map-append key earlier (at ∷ []) ∙ (λ i. same i ++ key-of line p fresh.0 i ∷ []) in
      row-passes (limit_grammar zones book runs) earlier (rows_from (line + 1) (map fields ps)) at (line-passes done earlier line p fresh.0 same fresh.1)
      (no-refusal (done ++ p ∷ []) ps (earlier ++ at ∷ []) (line + 1) longer fresh.2)

  all-plain : (done pairs : List Pair) → AreFresh runs (length borders) done pairs → list_all (is_plain_record 5) (map fields pairs) ≡ true
  all-plain done [] fresh = refl
  all-plain done (p ∷ ps) fresh = rw (record-plain 0 p fresh.0) (all-plain (done ++ p ∷ []) ps fresh.2)

  module _ (run border : ℕ) where
    abbrev pub test : Row → Bool
    test = is_of zones book runs run border

    found-first : (at : Row) (rows : List Row) → test at ≡ true → option_map limits_at (find test (at ∷ rows)) ≡ Some (limits_at at)
    found-first at rows e = rw e refl

    found-later : (at : Row) (rows : List Row) → test at ≡ false → option_map limits_at (find test (at ∷ rows)) ≡ option_map limits_at (find test rows)
    found-later at rows e = rw e refl

    -- the lines of all pairs state the limits of this one
    found : (done pairs : List Pair) (line : ℕ) → AreFresh runs (length borders) done pairs → list_any (is_pair run border) pairs ≡ true
        → option_map limits_at (find test (rows_from line (map fields pairs))) ≡ Some (limits run border)
    found done [] line fresh there = cc there
    found done (p ∷ ps) line fresh there = by (p.0 == run) refl (p.1 == border) refl there (found (done ++ p ∷ []) ps (line + 1) fresh.2)
      where
        at : Row
        at = row line p fresh.0

        rows : List Row
        rows = rows_from (line + 1) (map fields ps)

        later : is_pair run border p ≡ false → option_map limits_at (find test rows) ≡ Some (limits run border) → option_map limits_at (find test (at ∷ rows)) ≡ Some (limits run border)
        later e more = found-later at rows (key-read line p fresh.0 run border ∙ e) ∙ more

        by : (b : Bool) → (p.0 == run) ≡ b → (c : Bool) → (p.1 == border) ≡ c → ((b && c) || list_any (is_pair run border) ps) ≡ true
            → (list_any (is_pair run border) ps ≡ true → option_map limits_at (find test rows) ≡ Some (limits run border))
            → option_map limits_at (find test (at ∷ rows)) ≡ Some (limits run border)
        by true eb true ec there more =
            found-first at rows (key-read line p fresh.0 run border ∙ rw (eb, ec) refl)
            ∙ ap (λ o. Some (unwrap_or o no_limits)) (limits-read line p fresh.0)
            ∙ (λ i. Some (limits (eqb-true p.0 run eb i) (eqb-true p.1 border ec i)))
        by true eb false ec there more = later (rw (eb, ec) refl) (more there)
        by false eb c ec there more = later (rw eb refl) (more there)

  abbrev pub pairs : List Pair
  pairs = all_pairs runs (length borders) 1 runs

  are-fresh : AreFresh runs (length borders) [] pairs
  are-fresh = fresh-runs runs (length borders) 1 runs [] (omega arith) (omega arith) (λ r b other. refl)

  -- the table of the limits
  abbrev pub table : List (List Limits)
  table = map (λ run. map (λ border. limits (run + 1) border) (range_with_len 0 (length (map bare borders)))) (range_with_len 0 runs)

  table-read : limit_table zones book runs (rows_from 2 (map fields pairs)) ≡ table
  table-read =
      same_over _ _ 0 runs (λ run low high. same_over _ _ 0 (length (map bare borders)) (λ border below above.
      ap (λ o. unwrap_or o no_limits) (found (run + 1) border [] pairs 2 are-fresh
      (among-runs runs (length borders) (run + 1) border 1 runs (omega arith) (omega (arith, high)) (omega (arith, above, length-map borders bare))))))

  -- the records of the runs, one run after the other, are those of the pairs
  records-of : (first count : ℕ)
      → flat_map (λ run. map (λ border. limit_record zones run (ends_at borders border) (limits run border)) (range_with_len 0 (length borders))) (range_with_len first count)
      ≡ map fields (all_pairs runs (length borders) first count)
  records-of first zero = refl
  records-of first (suc count) =
      (λ i. sym (map-map fields (λ border. (first, border)) (range_with_len 0 (length borders))) i ++ records-of (first + 1) count i)
      ∙ sym (map-append fields (pairs_of first 0 (length borders)) (all_pairs runs (length borders) (first + 1) count))

  pub limits-read-back : book_in (limit_grammar zones book runs)
      (page_text limit_columns (flat_map (λ run. map (λ border. limit_record zones run (ends_at borders border) (limits run border)) (range_with_len 0 (length borders))) (range_with_len 1 runs)))
      ≡ Ok table
  limits-read-back =
      ap (λ records. book_in (limit_grammar zones book runs) (page_text limit_columns records)) (records-of 1 runs)
      ∙ book-read (limit_grammar zones book runs) (page_text limit_columns (map fields pairs)) (rows_from 2 (map fields pairs))
      (page-rows limit_columns 5 columns-five (map fields pairs) (all-plain [] pairs are-fresh))
      (no-refusal [] pairs [] 2 refl are-fresh) refl
      ∙ ap Ok table-read

  -- which are the limits of each run and border
  pub table-has : (run border : ℕ) → 1 ≤ run → run ≤ runs → border < length borders → limits_in table run border ≡ limits run border
  table-has run border first last within =
      let wide : border < length (map bare borders) = omega (arith, within, length-map borders bare) in
      let back_again : (run - 1) + 1 ≡ run = omega (arith, first) in
      ap (λ row. get_or row border no_limits)
      (get_or-map-range_with_len (λ r. map (λ b. limits (r + 1) b) (range_with_len 0 (length (map bare borders)))) 0 runs (run - 1) (run - 1) [] (omega (arith, first, last)) (omega arith))
      ∙ get_or-map-range_with_len (λ b. limits ((run - 1) + 1) b) 0 (length (map bare borders)) border border no_limits wide (omega arith)
      ∙ ap (λ r. limits r border) back_again
