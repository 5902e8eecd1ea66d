-- Rows, their fields and the first fault among them.
use Rattle.std.proofs.Common.{◌≡◌, ◌≤◌, ◌+◌, ◌==◌, ℕ, suc, zero, ◌&&◌, Bool, true, false, List, [], ◌∷◌, ◌++◌, Option, Some, None, Result, Ok, Err, take, drop, ◌-◌, length, refl, sym, ap, ◌∙◌, arith, IsUtf8, All, if◌then◌else◌}
use Rattle.std.specs.Prelude.{MatchResult, is_ok, slice_get}
use Rattle.std.specs.List.{list_all}
use Rattle.std.specs.Option.{option_or}
use Rattle.std.specs.Str.{bytes_eq, is_utf8, IsAscii}
use Rattle.std.proofs.lemmas.Bool.{eqb-true}
use Rattle.std.proofs.lemmas.List.Elements.{All-cons, All-nil}
use Rattle.std.proofs.lemmas.List.Folds.{list_all-append}
use Rattle.std.proofs.lemmas.Str.{IsAscii-drop, IsAscii-take, IsUtf8-from_ascii, IsUtf8-from_is_utf8, is_utf8-from_IsUtf8}
use Rattle.csv.specs.Records.{cut_from, field_at, fields_of, text_of}
use Rattle.csv.specs.Records.{Row as ByteRow}
use Rattle.mari_rows.specs.First.{first_fault_after, unless_fault}
use Rattle.mari_rows.specs.Records.{records_in}
use Rattle.mari_rows.specs.Rows.{columns_of, fault_of_row, first_row_fault, is_header, rows_after_header, rows_checked, rows_from, rows_in, rows_of_width, IsFaultOf}
use Rattle.mari_rows.proofs.RecordLemmas.{length-records_in}
use Rattle.mari_rows.specs.declared.faults.RowFault.{RowFault}
use Rattle.mari_rows.specs.declared.faults.RowFault.TheVariants.{BadHeader, BadRow, NotUtf8, Memory}
use Rattle.mari_rows.specs.declared.rows.Row.{Row}
use Rattle.mari_rows.proofs.FirstLemmas.{first_fault-go, first_fault-here, value-no-fault}

-- the test of a text, from what `from_utf8` says
pub tested : {A E : Type 0} (P : A → Type 0) (Q : E → Type 0) (bytes : List ℕ) (r : Result A E)
    → MatchResult r (λ s. P s × IsUtf8 bytes) (λ e. ¬ (IsUtf8 bytes) × Q e) → is_ok r ≡ is_utf8 bytes
tested P Q bytes (Ok s) h = sym (is_utf8-from_IsUtf8 bytes h.1)
tested P Q bytes (Err e) h = by (is_utf8 bytes) refl
  where
    by : (b : Bool) → is_utf8 bytes ≡ b → false ≡ is_utf8 bytes
    by true text = absurd (h.0 (IsUtf8-from_is_utf8 bytes text))
    by false not_text = sym not_text

-- one field more
pub take-field : (fields : List (List ℕ)) (i : ℕ) (x : List ℕ) → field_at fields i ≡ Some x → take (i + 1) fields ≡ take i fields ++ x ∷ []
unfolding field_at
take-field [] i x at = cc at
take-field (f ∷ fs) zero x at = rw (some-same at) refl
  where
    some-same : {a b : List ℕ} → Some a ≡ Some b → a ≡ b
    some-same e = cc e
take-field (f ∷ fs) (suc i) x at = grind (arith, take-field fs i x at)

-- the field at a place, as a slice gives it
pub field_is : (fields : List (List ℕ)) (i : ℕ) → field_at fields i ≡ slice_get fields i
unfolding field_at
field_is [] i = refl
field_is (f ∷ fs) zero = refl
field_is (f ∷ fs) (suc i) = field_is fs i

-- one field more that is text, and one that isn't
pub text_more : (fields : List (List ℕ)) (i : ℕ) (x : List ℕ) → field_at fields i ≡ Some x → list_all is_utf8 (take i fields) ≡ true → is_utf8 x ≡ true
    → list_all is_utf8 (take (i + 1) fields) ≡ true
text_more fields i x at so_far text = rw (take-field fields i x at, list_all-append is_utf8 (take i fields) (x ∷ []), so_far, text) refl

pub not_text : (fields : List (List ℕ)) (i : ℕ) (x : List ℕ) → field_at fields i ≡ Some x → is_utf8 x ≡ false → false ≡ list_all is_utf8 fields
unfolding field_at
not_text [] i x at bad = cc at
not_text (f ∷ fs) zero x at bad = let same : f ≡ x = cc at in rw (same, bad) refl
not_text (f ∷ fs) (suc i) x at bad = after (is_utf8 f) (not_text fs i x (grind (arith, at)) bad)
  where
    after : (b : Bool) → false ≡ list_all is_utf8 fs → false ≡ (b && list_all is_utf8 fs)
    after true h = h
    after false h = refl

-- fields of ASCII are text
cut_text : (start : ℕ) (ends bytes : List ℕ) → IsAscii bytes → list_all is_utf8 (cut_from start ends bytes) ≡ true
unfolding cut_from
cut_text start [] bytes ascii = refl
cut_text start (end ∷ ends) bytes ascii =
    let field = take (end - start) (drop start bytes) in
    let here : is_utf8 field ≡ true = is_utf8-from_IsUtf8 field (IsUtf8-from_ascii field (IsAscii-take (drop start bytes) (end - start) (IsAscii-drop bytes start ascii))) in
    rw (here, cut_text end ends bytes ascii) refl

pub ascii_text : (r : ByteRow) → IsAscii (text_of r) → list_all is_utf8 (fields_of r) ≡ true
ascii_text r ascii = cut_text 0 r.ends r.bytes ascii

-- where the lengths differ it is no header
pub no_header : (columns fields : List (List ℕ)) → (length fields ≡ length columns → ⊥) → false ≡ is_header columns fields
no_header [] [] differ = absurd (differ refl)
no_header [] (f ∷ fs) differ = refl
no_header (c ∷ cs) [] differ = refl
no_header (c ∷ cs) (f ∷ fs) differ = after (bytes_eq f c) (no_header cs fs (λ e. differ (omega (arith, e))))
  where
    after : (b : Bool) → false ≡ is_header cs fs → false ≡ (b && is_header cs fs)
    after true h = h
    after false h = refl

-- a fault of the header is one of the rows
pub fault-checked : (width : ℕ) (read : Result (List Row) RowFault) (fault : RowFault) → IsFaultOf read fault → IsFaultOf (rows_checked width read) fault
fault-checked width read BadHeader there = rw there refl
fault-checked width read (BadRow line) there = rw there refl
fault-checked width read (NotUtf8 line) there = rw there refl
fault-checked width read Memory there = tt

-- a fault that is reported
pub fault-reported : (read : Result (List Row) RowFault) (fault : RowFault) → read ≡ Err fault → IsFaultOf read fault
fault-reported read BadHeader there = there
fault-reported read (BadRow line) there = there
fault-reported read (NotUtf8 line) there = there
fault-reported read Memory there = tt

-- the first fault among rows
pub fault-among : (width : ℕ) (rows : List Row) (fault : RowFault) → first_row_fault width rows ≡ Some fault → IsFaultOf (rows_of_width width rows) fault
fault-among width rows fault found = fault-reported (rows_of_width width rows) fault (ap (λ (o : Option RowFault). unless_fault o rows) found)

-- a row's fault is its own, whatever stands before it
later-faults : (width : ℕ) (earlier rows : List Row) → first_fault_after (λ earlier row. fault_of_row width row) earlier rows ≡ first_row_fault width rows
later-faults width earlier [] = refl
later-faults width earlier (row ∷ rows) =
    ap (option_or (fault_of_row width row)) (later-faults width (earlier ++ row ∷ []) rows ∙ sym (later-faults width (row ∷ []) rows))

module _ (width : ℕ) (row : Row) (rows rest : List Row) (next : rows ≡ row ∷ rest) where
  -- the first fault lies after a row that has none
  pub fault-later : (first : Option RowFault) → fault_of_row width row ≡ None → first_row_fault width rows ≡ first → first_row_fault width rest ≡ first
  fault-later first none is =
      sym (later-faults width (row ∷ []) rest) ∙ first_fault-go (λ earlier row. fault_of_row width row) [] rows rest row next none ∙ is

  -- and is that of the row, where it has one
  pub fault-here : {fault : RowFault} → fault_of_row width row ≡ Some fault → first_row_fault width rows ≡ Some fault
  fault-here found = first_fault-here (λ earlier row. fault_of_row width row) [] rows rest row next found

-- a row without a fault has as many fields as are wanted
pub width-of : (width : ℕ) (row : Row) → fault_of_row width row ≡ None → length row.fields ≡ width
width-of width row none = by (length row.fields == width) refl none
  where
    by : (b : Bool) → (length row.fields == width) ≡ b
        → (if b then if list_all is_utf8 row.fields then None else Some (NotUtf8 row.line) else Some (BadRow row.line)) ≡ None
        → length row.fields ≡ width
    by true e none = eqb-true (length row.fields) width e
    by false e none = cc none

widths-after : (width : ℕ) (earlier rows : List Row) → first_fault_after (λ earlier row. fault_of_row width row) earlier rows ≡ None
    → All (λ row. length row.fields ≡ width) rows
widths-after width earlier [] none = All-nil (λ row. length row.fields ≡ width)
widths-after width earlier (row ∷ rows) none = by (fault_of_row width row) refl none (widths-after width (earlier ++ row ∷ []) rows)
  where
    by : (o : Option RowFault) → fault_of_row width row ≡ o
        → option_or o (first_fault_after (λ earlier row. fault_of_row width row) (earlier ++ row ∷ []) rows) ≡ None
        → (first_fault_after (λ earlier row. fault_of_row width row) (earlier ++ row ∷ []) rows ≡ None → All (λ row. length row.fields ≡ width) rows)
        → All (λ row. length row.fields ≡ width) (row ∷ rows)
    by None e h more = All-cons (λ row. length row.fields ≡ width) row rows (width-of width row e) (more h)
    by (Some fault) e h more = cc h

-- rows that were read have as many fields as there are columns
pub widths : (columns page : List ℕ) (rows : List Row) → rows_in columns page ≡ Ok rows → All (λ row. length row.fields ≡ length (columns_of columns)) rows
widths columns page rows read = by (rows_after_header (columns_of columns) (records_in page)) read
  where
    by : (r : Result (List Row) RowFault) → rows_checked (length (columns_of columns)) r ≡ Ok rows
        → All (λ row. length row.fields ≡ length (columns_of columns)) rows
    by (Err fault) e = cc e
    by (Ok all) e =
        let good = value-no-fault (first_row_fault (length (columns_of columns)) all) all rows (sym e) in
        rw good.1 (widths-after (length (columns_of columns)) [] all good.0)

-- a row of each record
pub length-rows_from : (line : ℕ) (records : List (List (List ℕ))) → length (rows_from line records) ≡ length records
length-rows_from line [] = refl
length-rows_from line (fields ∷ records) = rw (length-rows_from (line + 1) records) refl

-- a page has no more rows below its header than bytes
pub length-rows_after : (columns : List (List ℕ)) (page : List ℕ) (rows : List Row) → rows_after_header columns (records_in page) ≡ Ok rows
    → length rows ≤ length page
length-rows_after columns page rows read = by (records_in page) (length-records_in page) read
  where
    by : (records : List (List (List ℕ))) → length records ≤ length page + 1 → rows_after_header columns records ≡ Ok rows → length rows ≤ length page
    by [] few e = cc e
    by (header ∷ records) few e = headed (is_header columns header) e
      where
        headed : (b : Bool) → (if b then Ok (rows_from 2 records) else Err BadHeader) ≡ Ok rows → length rows ≤ length page
        headed false e = cc e
        headed true e =
            let same : rows ≡ rows_from 2 records = cc e in
            rw (same, length-rows_from 2 records) (omega (arith, few))

-- and no more that have no fault
pub length-rows_in : (columns page : List ℕ) (rows : List Row) → rows_in columns page ≡ Ok rows → length rows ≤ length page
length-rows_in columns page rows read = by (rows_after_header (columns_of columns) (records_in page)) (length-rows_after (columns_of columns) page) read
  where
    by : (below : Result (List Row) RowFault) → ((all : List Row) → below ≡ Ok all → length all ≤ length page)
        → rows_checked (length (columns_of columns)) below ≡ Ok rows → length rows ≤ length page
    by (Err fault) few e = cc e
    by (Ok all) few e = rw (value-no-fault (first_row_fault (length (columns_of columns)) all) all rows (sym e)).1 (few all refl)
