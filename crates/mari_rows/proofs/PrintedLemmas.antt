-- Records that are printed without quotes are read back as they were; a printed number and a name stand without quotes.
use Rattle.std.proofs.Common.{◌≡◌, ◌∙◌, ◌≤◌, ◌<◌, ◌^◌, ◌+◌, ◌==◌, ◌&&◌, not, ℕ, zero, suc, Bool, true, false, List, [], ◌∷◌, ◌++◌, Some, None, Ok, decimal, length, refl, sym, ap, arith, append_assoc, append-nil, length-append, flat_map, nat_le, nat_lt, leb, IsAscii}
use Rattle.std.specs.Char.{is_ascii_digit}
use Rattle.std.specs.List.{join_with_byte, list_all, list_any}
use Rattle.std.specs.Str.{is_utf8}
use Rattle.std.proofs.lemmas.Bool.{eqb-true, leb-true, lt-ltb, ltb-true, ne_eqb, not-true, and_parts}
use Rattle.std.proofs.lemmas.Bool.Decides.{nat_tests}
use Rattle.std.proofs.lemmas.Fmt.{digits_decimal}
use Rattle.std.proofs.lemmas.List.Folds.{list_all-append}
use Rattle.std.proofs.lemmas.List.Splits.{join_with_byte-slice_split}
use Rattle.std.proofs.lemmas.Str.{IsUtf8-from_ascii, is_utf8-from_IsUtf8}
use Rattle.csv.specs.Machine.{next_record}
use Rattle.csv.specs.Reading.{default_config, records_from, strip_bom}
use Rattle.csv.specs.Writing.{default_writer, field_text, fields_text, is_blank, needs_byte, row_text}
use Rattle.csv.specs.declared.parser.State.TheVariants as st
use Rattle.csv.proofs.RoundTrip.{read-write-many}
use Rattle.mari_units.specs.Names.{is_name, is_name_byte}
use Rattle.mari_units.proofs.Digits.{own}
use Rattle.mari_rows.specs.First.{first_fault_after}
use Rattle.mari_rows.specs.Printed.{line_of, page_text}
use Rattle.mari_rows.specs.Records.{records_in}
use Rattle.mari_rows.specs.Rows.{columns_of, fault_of_row, is_header, rows_from, rows_in}
use Rattle.mari_rows.specs.declared.rows.Row.{Row}
use Rattle.mari_rows.proofs.NameLemmas.{bytes_eq-same}

-- an ASCII byte that stands in a field without quotes
abbrev pub is_plain : ℕ → Bool
is_plain b = nat_lt b 128 && not (needs_byte default_writer b)

abbrev pub is_plain_field : List ℕ → Bool
is_plain_field field = list_all is_plain field

-- `width` fields, each of such bytes
abbrev pub is_plain_record : (width : ℕ) → List (List ℕ) → Bool
is_plain_record width fields = (length fields == width) && list_all is_plain_field fields

no-mark : (field : List ℕ) → is_plain_field field ≡ true → list_any (needs_byte default_writer) field ≡ false
no-mark [] e = refl
no-mark (b ∷ bs) e =
    let parts = and_parts (is_plain b) (is_plain_field bs) e in
    let here = not-true (needs_byte default_writer b) ((and_parts (nat_lt b 128) (not (needs_byte default_writer b)) parts.0).1) in
    rw (here, no-mark bs parts.1) refl

ascii : (field : List ℕ) → is_plain_field field ≡ true → IsAscii field
ascii [] e i = omega arith
ascii (b ∷ bs) e zero =
    let parts = and_parts (is_plain b) (is_plain_field bs) e in
    ltb-true b 128 ((and_parts (nat_lt b 128) (not (needs_byte default_writer b)) parts.0).0)
ascii (b ∷ bs) e (suc i) = ascii bs ((and_parts (is_plain b) (is_plain_field bs) e).1) i

-- such a field is written as it stands
as-it-stands : (field : List ℕ) → is_plain_field field ≡ true → field_text default_writer field ≡ field
as-it-stands field e = rw (no-mark field e) refl

-- and is text
all-text : (fields : List (List ℕ)) → list_all is_plain_field fields ≡ true → list_all is_utf8 fields ≡ true
all-text [] e = refl
all-text (field ∷ fields) e =
    let parts = and_parts (is_plain_field field) (list_all is_plain_field fields) e in
    rw (is_utf8-from_IsUtf8 field (IsUtf8-from_ascii field (ascii field parts.0)), all-text fields parts.1) refl

-- the fields of a line, as csv writes them
joined : (field : List ℕ) (fields : List (List ℕ)) → list_all is_plain_field (field ∷ fields) ≡ true
    → field_text default_writer field ++ fields_text default_writer fields ≡ join_with_byte 44 (field ∷ fields)
unfolding fields_text
joined field [] e =
    let parts = and_parts (is_plain_field field) true e in
    rw (as-it-stands field parts.0) (append-nil field)
joined field (next ∷ fields) e =
    let parts = and_parts (is_plain_field field) (list_all is_plain_field (next ∷ fields)) e in
    rw (as-it-stands field parts.0) (ap (λ text. field ++ 44 ∷ text) (joined next fields parts.1))

written : (field next : List ℕ) (fields : List (List ℕ)) → list_all is_plain_field (field ∷ next ∷ fields) ≡ true
    → row_text default_writer (field ∷ next ∷ fields) ≡ line_of (field ∷ next ∷ fields)
unfolding is_blank
written field next fields e = ap (λ text. text ++ 10 ∷ []) (joined field (next ∷ fields) e)

-- a line of two fields or more is read as they
one-line : (fields : List (List ℕ)) (tail : List ℕ) → 2 ≤ length fields → list_all is_plain_field fields ≡ true
    → next_record default_config st.StartRecord [] [] (line_of fields ++ tail) ≡ Some (fields, st.StartRecord, tail)
one-line [] tail wide e = absurd (omega (arith, wide))
one-line (field ∷ []) tail wide e = absurd (omega (arith, wide))
one-line (field ∷ next ∷ fields) tail wide e =
    ap (λ text. next_record default_config st.StartRecord [] [] (text ++ tail)) (sym (written field next fields e)) ∙ read-write-many field next fields tail

some-byte : (fields : List (List ℕ)) (tail : List ℕ) → length tail < length (line_of fields ++ tail)
some-byte fields tail = grind (arith, length-append)

same-width : (width : ℕ) (fields : List (List ℕ)) → is_plain_record width fields ≡ true → (length fields ≡ width) × (list_all is_plain_field fields ≡ true)
same-width width fields e =
    let parts = and_parts (length fields == width) (list_all is_plain_field fields) e in
    (eqb-true (length fields) width parts.0, parts.1)

module _ (width : ℕ) (wide : 2 ≤ width) where
  -- lines, one after the other
  all-lines : (records : List (List (List ℕ))) (n : ℕ) → list_all (is_plain_record width) records ≡ true → length (flat_map line_of records) < n
      → records_from default_config n st.StartRecord (flat_map line_of records) ≡ records
  unfolding records_from next_record
  all-lines [] zero e room = absurd (omega (arith, room))
  all-lines [] (suc n) e room = refl
  all-lines (fields ∷ records) zero e room = absurd (omega (arith, room))
  all-lines (fields ∷ records) (suc n) e room =
      let parts = and_parts (is_plain_record width fields) (list_all (is_plain_record width) records) e in
      let here = same-width width fields parts.0 in
      rw (one-line fields (flat_map line_of records) (omega (arith, wide, here.0)) here.1)
      (ap (λ rest. fields ∷ rest) (all-lines records n parts.1 (omega (arith, room, some-byte fields (flat_map line_of records)))))

  -- rows of as many fields as are wanted, each text, have no fault
  no-fault : (earlier : List Row) (line : ℕ) (records : List (List (List ℕ))) → list_all (is_plain_record width) records ≡ true
      → first_fault_after (λ earlier row. fault_of_row width row) earlier (rows_from line records) ≡ None
  no-fault earlier line [] e = refl
  no-fault earlier line (fields ∷ records) e =
      let parts = and_parts (is_plain_record width fields) (list_all (is_plain_record width) records) e in
      let shape = and_parts (length fields == width) (list_all is_plain_field fields) parts.0 in
      rw (shape.0, all-text fields shape.1) (no-fault (earlier ++ record { line = line; fields = fields } ∷ []) (line + 1) records parts.1)

-- columns are a header of themselves
pub itself : (columns : List (List ℕ)) → is_header columns columns ≡ true
itself [] = refl
itself (column ∷ columns) = rw (bytes_eq-same column) (itself columns)

-- columns that can be the header of a printed page, which no byte order mark begins
pub record AreColumns (columns : List ℕ) (width : ℕ) : Type 0 where
  pub wide : 2 ≤ width
  pub plain : is_plain_record width (columns_of columns) ≡ true
  pub unmarked : (rest : List ℕ) → strip_bom (columns ++ rest) ≡ columns ++ rest

module _ (columns : List ℕ) (width : ℕ) (are : AreColumns columns width) (records : List (List (List ℕ))) (plain : list_all (is_plain_record width) records ≡ true) where
  header-line : page_text columns records ≡ flat_map line_of (columns_of columns ∷ records)
  header-line =
      ap (λ text. text ++ 10 ∷ flat_map line_of records) (sym (join_with_byte-slice_split 44 columns))
      ∙ sym (append_assoc (join_with_byte 44 (columns_of columns)) (10 ∷ []) (flat_map line_of records))

  -- the records of a printed page are its columns and then those that were printed
  pub records-read : records_in (page_text columns records) ≡ columns_of columns ∷ records
  records-read =
      rw (are.unmarked (10 ∷ flat_map line_of records), header-line)
      (all-lines width are.wide (columns_of columns ∷ records) (length (flat_map line_of (columns_of columns ∷ records)) + 1)
      (rw (are.plain, plain) refl) (omega arith))

  -- its rows are those that were printed, after the header
  pub page-rows : rows_in columns (page_text columns records) ≡ Ok (rows_from 2 records)
  page-rows =
      rw (records-read, itself (columns_of columns), (same-width width (columns_of columns) are.plain).0, no-fault width are.wide [] 2 records plain) refl

digit-range : (d : ℕ) → is_ascii_digit d ≡ true → (48 ≤ d) × (d ≤ 57)
digit-range d e = let range = and_parts (leb 48 d) (leb d 57) e in (leb-true 48 d range.0, leb-true d 57 range.1)

-- no mark of the format is from a minus on
pub plain-byte : (b : ℕ) → 45 ≤ b → b < 128 → is_plain b ≡ true
plain-byte b low high =
    let other : (mark : ℕ) → mark < 45 → (b == mark) ≡ false = λ mark below. ne_eqb b mark (λ same. absurd (omega (arith, same, below, low))) in
    rw (lt-ltb b 128 high, other 44 (omega arith), other 34 (omega arith), other 13 (omega arith), other 10 (omega arith)) refl

module _ (test : ℕ → Bool) (passes : (b : ℕ) → test b ≡ true → is_plain b ≡ true) where
  all-plain : (text : List ℕ) → list_all test text ≡ true → is_plain_field text ≡ true
  all-plain [] e = refl
  all-plain (b ∷ bs) e =
      let parts = and_parts (test b) (list_all test bs) e in
      rw (passes b parts.0) (all-plain bs parts.1)

-- a printed number stands without quotes
pub number-plain : (n : ℕ) → n < 2 ^ 64 → is_plain_field (decimal n) ≡ true
number-plain n small =
    all-plain is_ascii_digit (λ d e. let range = digit-range d e in plain-byte d (omega (arith, range.0)) (omega (arith, range.1))) (decimal n) (digits_decimal own n small)

name-range : (b : ℕ) → is_name_byte b ≡ true → (45 ≤ b) × (b < 128)
name-range b e = grind (arith, nat_tests)

-- and so does a name
pub name-plain : (name : List ℕ) → is_name name ≡ true → is_plain_field name ≡ true
name-plain name e =
    let parts = and_parts (nat_le 1 (length name) && nat_le (length name) 16) (list_all is_name_byte name) e in
    all-plain is_name_byte (λ b named. let range = name-range b named in plain-byte b range.0 range.1) name parts.1

-- two fields that stand without quotes, joined
pub plain-joined : (xs ys : List ℕ) → is_plain_field xs ≡ true → is_plain_field ys ≡ true → is_plain_field (xs ++ ys) ≡ true
plain-joined xs ys x y = list_all-append is_plain xs ys ∙ rw (x, y) refl

-- the bytes of a line: each field with the byte after it
abbrev pub bytes_of : List (List ℕ) → ℕ
bytes_of [] = 0
bytes_of (field ∷ fields) = length field + 1 + bytes_of fields

pub length-line : (field : List ℕ) (fields : List (List ℕ)) → length (line_of (field ∷ fields)) ≡ bytes_of (field ∷ fields)
length-line field [] = omega (arith, length-append field (10 ∷ []))
length-line field (next ∷ fields) =
    let rest = join_with_byte 44 (next ∷ fields) in
    omega (arith, length-append (field ++ 44 ∷ rest) (10 ∷ []), length-append field (44 ∷ rest), length-append rest (10 ∷ []), length-line next fields)
