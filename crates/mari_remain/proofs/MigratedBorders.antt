-- The printed page of borders is read as these borders without their limits.
use Rattle.std.proofs.Common.{◌≡◌, ◌∙◌, ◌<◌, ◌+◌, ◌==◌, ◌&&◌, ℕ, Bool, true, false, List, [], ◌∷◌, ◌++◌, Some, None, Result, Ok, Err, All, length, map, refl, sym, ap, arith, is_some, not, nat_le, nat_lt}
use Rattle.std.specs.List.{list_all, list_any}
use Rattle.std.proofs.lemmas.Bool.{eq-eqb, eqb-true, lt-ltb, ltb-true, ne_eqb}
use Rattle.std.proofs.lemmas.Bool.Decides.{nat_tests}
use Rattle.std.proofs.lemmas.List.{get_or_past, length-map, map-append}
use Rattle.std.proofs.lemmas.List.Elements.{All-head, All-tail}
use Rattle.csv.specs.Reading.{strip_bom}
use Rattle.mari_rows.specs.Books.{Grammar, book_in, book_of_read, first_failing, first_refusal, line_refusal}
use Rattle.mari_rows.specs.First.{first_fault, first_fault_after}
use Rattle.mari_rows.specs.Names.{name_at}
use Rattle.mari_rows.specs.Printed.{page_text}
use Rattle.mari_rows.specs.Rows.{columns_of, rows_from, rows_in}
use Rattle.mari_rows.specs.declared.faults.RowFault.{RowFault}
use Rattle.mari_rows.specs.declared.rows.Row.{Row}
use Rattle.mari_rows.proofs.BookFacts.{all-passed, no-failing, none-fails}
use Rattle.mari_rows.proofs.BookLemmas.{book-read, row-passes}
use Rattle.mari_rows.proofs.FirstLemmas.{value-no-fault}
use Rattle.mari_rows.proofs.FirstMeaning.{option_or-parts}
use Rattle.mari_rows.proofs.NameLemmas.{list_any-map, place-of-name}
use Rattle.mari_rows.proofs.PrintedLemmas.{AreColumns, is_plain_field, is_plain_record, itself, name-plain, page-rows, records-read}
use Rattle.mari_zones.specs.Borders.{IsBorder, bare_columns, border_checks, border_grammar, border_of, borders_in, is_between_same, version_in, zone_named}
use Rattle.mari_zones.specs.Zones.{IsZoneBook}
use Rattle.mari_zones.specs.declared.borders.BorderBook.{BorderBook}
use Rattle.mari_zones.specs.declared.borders.BorderEnds.{BorderEnds}
use Rattle.mari_zones.specs.declared.zones.ZoneBook.{ZoneBook}
use Rattle.mari_remain.specs.Migrated.{border_record}

pub zone-found : (zones : ZoneBook) → IsZoneBook zones → (i : ℕ) → i < length zones.zones → zone_named zones (name_at zones.zones i) ≡ Some i
zone-found zones is i within = rw (place-of-name zones.zones is.distinct i within, lt-ltb i (length zones.zones) within) refl

-- the name of a zone stands without quotes, and so does nothing in its place
pub zone-plain : (zones : ZoneBook) → IsZoneBook zones → (i : ℕ) → is_plain_field (name_at zones.zones i) ≡ true
zone-plain zones is i = by (nat_lt i (length zones.zones)) refl
  where
    by : (b : Bool) → nat_lt i (length zones.zones) ≡ b → is_plain_field (name_at zones.zones i) ≡ true
    by true e = name-plain (name_at zones.zones i) (is.zones i [] (ltb-true i (length zones.zones) e))
    by false e = rw (get_or_past zones.zones i [] (grind (arith, nat_tests))) refl

-- a border without its limits
abbrev pub bare : BorderEnds → BorderEnds
bare ends = record { from = ends.from; to = ends.to; limit = 0; back = 0 }

-- no border is between the two zones of one before it
abbrev pub NoneRepeated : (before borders : List BorderEnds) → Type 0
NoneRepeated before [] = Unit {0}
NoneRepeated before (x ∷ xs) = (list_any (is_between_same x) before ≡ false) × NoneRepeated (before ++ x ∷ []) xs

-- a border that leads between the zones of another is between the same two
pub no-way : (x b : BorderEnds) → is_between_same x b ≡ false → ((b.from == x.from) && (b.to == x.to)) ≡ false
no-way x b e = by (b.from == x.from) refl (b.to == x.to) refl
  where
    by : (p : Bool) → (b.from == x.from) ≡ p → (q : Bool) → (b.to == x.to) ≡ q → (p && q) ≡ false
    by false ep q eq = refl
    by true ep false eq = refl
    by true ep true eq = cc (rw (eq-eqb x.from b.from (sym (eqb-true b.from x.from ep)), eq-eqb x.to b.to (sym (eqb-true b.to x.to eq))) at e)

module _ (zones : ZoneBook) (is : IsZoneBook zones) where
  abbrev pub printed : BorderEnds → List (List ℕ)
  printed = border_record zones

  -- a border's line is read as the border
  line-read : (line : ℕ) (x : BorderEnds) → IsBorder zones x → border_of zones 2 (record { line = line; fields = printed x }) ≡ bare x
  line-read line x ok = rw (zone-found zones is x.from ok.from, zone-found zones is x.to ok.to) refl

  -- and passes its checks where the border passed them
  line-passes : (earlier : List Row) (before : List BorderEnds) (line : ℕ) (x : BorderEnds) → IsBorder zones x
      → map (border_of zones 2) earlier ≡ map bare before → length before < 256 → list_any (is_between_same x) before ≡ false
      → first_failing (border_checks zones 2 earlier (record { line = line; fields = printed x })) ≡ None
  line-passes earlier before line x ok same few new =
      let row : Row = record { line = line; fields = printed x } in
      let count : length earlier ≡ length before = sym (length-map earlier (border_of zones 2)) ∙ ap length same ∙ length-map before bare in
      let room : nat_le 256 (length earlier) ≡ false = grind (arith, nat_tests) in
      let apart : (x.from == x.to) ≡ false = ne_eqb x.from x.to ok.apart in
      let fresh : list_any (is_between_same (bare x)) (map bare before) ≡ false = list_any-map bare (is_between_same (bare x)) before ∙ new in
      let found : (is_some (zone_named zones (name_at zones.zones x.from)) && is_some (zone_named zones (name_at zones.zones x.to))) ≡ true =
      rw (zone-found zones is x.from ok.from, zone-found zones is x.to ok.to) refl in
      let ends : border_of zones 2 row ≡ bare x = line-read line x ok in
      let repeated : list_any (is_between_same (border_of zones 2 row)) (map (border_of zones 2) earlier) ≡ false =
      (λ i. list_any (is_between_same (ends i)) (same i)) ∙ fresh in
      none-fails (border_checks zones 2 earlier row) (room, (ap not found, ((λ i. (ends i).from == (ends i).to) ∙ apart, (repeated, (refl, tt)))))

  module _ (version : ℕ) where
    abbrev pub said : Row → BorderEnds
    said = border_of zones version

    -- lines that were read with no refusal: their borders, printed, are read so too, and none is repeated
    record Moves (before earlier rows : List Row) (line : ℕ) : Type 0 where
      passes : first_fault_after (line_refusal (border_grammar zones 2)) earlier (rows_from line (map printed (map said rows))) ≡ None
      none_repeated : NoneRepeated (map said before) (map said rows)

    moves : (before earlier rows : List Row) (line : ℕ) → All (IsBorder zones) (map said rows) → map (border_of zones 2) earlier ≡ map bare (map said before)
        → first_fault_after (line_refusal (border_grammar zones version)) before rows ≡ None → Moves before earlier rows line
    moves before earlier [] line ok same none = record { passes = refl; none_repeated = tt }
    moves before earlier (row ∷ rows) line ok same none =
        let parts = option_or-parts (line_refusal (border_grammar zones version) before row) (first_fault_after (line_refusal (border_grammar zones version)) (before ++ row ∷ []) rows) none in
        let all = all-passed (border_checks zones version before row) (no-failing row.line (first_failing (border_checks zones version before row)) parts.0) in
        let few : length (map said before) < 256 = rw (length-map before said) (grind (arith, nat_tests, all.0)) in
        let new : list_any (is_between_same (said row)) (map said before) ≡ false = all.1.1.1.0 in
        let here = All-head (IsBorder zones) (said row) (map said rows) ok in
        let next : Row = record { line = line; fields = printed (said row) } in
        let longer : map (border_of zones 2) (earlier ++ next ∷ []) ≡ map bare (map said (before ++ row ∷ [])) =
        map-append (border_of zones 2) earlier (next ∷ [])
        ∙ (λ i. same i ++ line-read line (said row) here i ∷ [])
        ∙ sym (map-append bare (map said before) (said row ∷ []))
        ∙ ap (map bare) (sym (map-append said before (row ∷ []))) in
        let more = moves (before ++ row ∷ []) (earlier ++ next ∷ []) rows (line + 1) (All-tail (IsBorder zones) (said row) (map said rows) ok) longer parts.1 in
        record {
          passes = row-passes (border_grammar zones 2) earlier (rows_from (line + 1) (map printed (map said rows))) next
              (line-passes earlier (map said before) line (said row) here same few new) more.passes;
          none_repeated = (new, rw (map-append said before (row ∷ [])) at more.none_repeated);
        }

  -- what is read of printed borders
  lines-read : (line : ℕ) (borders : List BorderEnds) → All (IsBorder zones) borders → map (border_of zones 2) (rows_from line (map printed borders)) ≡ map bare borders
  lines-read line [] ok = refl
  lines-read line (x ∷ xs) ok =
      λ i. line-read line x (All-head (IsBorder zones) x xs ok) i ∷ lines-read (line + 1) xs (All-tail (IsBorder zones) x xs ok) i

  all-records : (borders : List BorderEnds) → list_all (is_plain_record 2) (map printed borders) ≡ true
  all-records [] = refl
  all-records (x ∷ xs) = rw (zone-plain zones is x.from, zone-plain zones is x.to) (all-records xs)

  -- the rows of a page that is a book, none of which is refused
  record HasRows (g : Grammar BorderBook) (page : List ℕ) (book : BorderBook) : Type 0 where
    rows : List Row
    none : first_fault (line_refusal g) rows ≡ None
    says : book ≡ g.book rows

  has-rows : (g : Grammar BorderBook) (page : List ℕ) (book : BorderBook) → book_in g page ≡ Ok book → HasRows g page book
  has-rows g page book read = by (rows_in g.columns page) read
    where
      by : (r : Result (List Row) RowFault) → book_of_read g r ≡ Ok book → HasRows g page book
      by (Ok rows) e =
          let value = value-no-fault (first_refusal g rows) (g.book rows) book (sym e) in
          record { rows = rows; none = (option_or-parts (first_fault (line_refusal g) rows) _ value.0).0; says = value.1 }
      by (Err fault) e = cc e

columns-two : AreColumns bare_columns 2
unfolding bare_columns strip_bom
columns-two = record { wide = omega arith; plain = refl; unmarked = λ rest. refl }

module _ (zones : ZoneBook) (is : IsZoneBook zones) (book : BorderBook) (ok : All (IsBorder zones) book.borders) where
  -- the page that the borders make
  abbrev pub page : List ℕ
  page = page_text bare_columns (map (border_record zones) book.borders)

  pub second : version_in page ≡ 2
  second = rw (records-read bare_columns 2 columns-two (map (border_record zones) book.borders) (all-records zones is book.borders), itself (columns_of bare_columns)) refl

  module _ (own : List ℕ) (read : borders_in zones own ≡ Ok book) where
    from-own : Moves zones is (version_in own) [] [] (has-rows zones is (border_grammar zones (version_in own)) own book read).rows 2
    from-own =
        let has = has-rows zones is (border_grammar zones (version_in own)) own book read in
        moves zones is (version_in own) [] [] has.rows 2 (rw has.says at ok) refl has.none

    pub none-repeated : NoneRepeated [] book.borders
    none-repeated =
        let has = has-rows zones is (border_grammar zones (version_in own)) own book read in
        rw has.says from-own.none_repeated

    -- the page is read as the borders without their limits
    pub borders-read : borders_in zones page ≡ Ok (record { borders = map bare book.borders })
    borders-read =
        let records = map (border_record zones) book.borders in
        let has = has-rows zones is (border_grammar zones (version_in own)) own book read in
        let passes : first_fault (line_refusal (border_grammar zones 2)) (rows_from 2 records) ≡ None = rw has.says from-own.passes in
        let rows : rows_in bare_columns page ≡ Ok (rows_from 2 records) = page-rows bare_columns 2 columns-two records (all-records zones is book.borders) in
        ap (λ version. book_in (border_grammar zones version) page) second
        ∙ book-read (border_grammar zones 2) page (rows_from 2 records) rows passes refl
        ∙ ap (λ borders. Ok (record { borders = borders })) (lines-read zones is 2 book.borders ok)
