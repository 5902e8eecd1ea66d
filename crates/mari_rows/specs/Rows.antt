-- Pages as rows: records with their lines.
use Rattle.std.specs.Prelude.{◌≡◌, ℕ, ◌+◌, ◌==◌, Bool, List, [], ◌∷◌, Option, Some, None, Result, Ok, Err, length, if◌then◌else◌, unwrap_or, slice_get, ⊤}
use Rattle.std.specs.Cmp.Lexicographic.{pointwise}
use Rattle.std.specs.List.{list_all, slice_split}
use Rattle.std.specs.Str.{bytes_eq, is_utf8}
use Rattle.mari_rows.specs.First.{first_fault, unless_fault}
use Rattle.mari_rows.specs.Records.{records_in}
use Rattle.mari_rows.specs.declared.faults.RowFault.{RowFault}
use Rattle.mari_rows.specs.declared.faults.RowFault.TheVariants.{BadHeader, BadRow, NotUtf8, Memory}
use Rattle.mari_rows.specs.declared.records.TestedRecord.{TestedRecord}
use Rattle.mari_rows.specs.declared.records.TestedRecord.TheVariants.{End, Fine, Faulty}
use Rattle.mari_rows.specs.declared.rows.Row.{Row}

-- records with their lines, from this line on
abbrev pub rows_from : ℕ → List (List (List ℕ)) → List Row
rows_from line [] = []
rows_from line (fields ∷ records) = record { line = line; fields = fields } ∷ rows_from (line + 1) records

-- the texts between the commas
abbrev pub columns_of : List ℕ → List (List ℕ)
columns_of text = slice_split (λ b. b == 44) text

-- what is wrong with a row by itself, where each has `width` fields
abbrev pub fault_of_row : ℕ → Row → Option RowFault
fault_of_row width row =
    if length row.fields == width
    then if list_all is_utf8 row.fields then None else Some (NotUtf8 row.line)
    else Some (BadRow row.line)

-- the field of a row at a place, and nothing past the last
abbrev pub field_of : Row → ℕ → List ℕ
field_of row place = unwrap_or (slice_get row.fields place) []

-- whether a record is the column names
abbrev pub is_header : List (List ℕ) → List (List ℕ) → Bool
is_header columns fields = pointwise bytes_eq fields columns

-- the test of the next record, of those that are left before and after it
abbrev pub TestsNext : (width line : ℕ) → (old new : List (List (List ℕ))) → TestedRecord → Type 0
TestsNext width line old new End = (old ≡ []) × (new ≡ [])
TestsNext width line old new Fine = (fields : List (List ℕ)) × (old ≡ fields ∷ new) × (fault_of_row width (record { line = line; fields = fields }) ≡ None)
TestsNext width line old new (Faulty fault) =
    (fields : List (List ℕ)) × (old ≡ fields ∷ new) × (fault_of_row width (record { line = line; fields = fields }) ≡ Some fault)

-- the same of the rows that are left
abbrev pub TestsRow : (width : ℕ) → (old new : List Row) → TestedRecord → Type 0
TestsRow width old new End = (old ≡ []) × (new ≡ [])
TestsRow width old new Fine = (row : Row) × (old ≡ row ∷ new) × (fault_of_row width row ≡ None)
TestsRow width old new (Faulty fault) = (row : Row) × (old ≡ row ∷ new) × (fault_of_row width row ≡ Some fault)

-- whether the next record is these columns, of the records that are left before and after it
abbrev pub TestsHeader : (columns : List (List ℕ)) → (old new : List (List (List ℕ))) → Option Bool → Type 0
TestsHeader columns old new None = (old ≡ []) × (new ≡ [])
TestsHeader columns old new (Some found) = (fields : List (List ℕ)) × (old ≡ fields ∷ new) × (found ≡ is_header columns fields)

-- the first row with a fault by itself
abbrev pub first_row_fault : ℕ → List Row → Option RowFault
first_row_fault width rows = first_fault (λ earlier row. fault_of_row width row) rows

-- these rows, or the first fault among them
abbrev pub rows_of_width : ℕ → List Row → Result (List Row) RowFault
rows_of_width width rows = unless_fault (first_row_fault width rows) rows

-- the rows after the header
abbrev pub rows_after_header : List (List ℕ) → List (List (List ℕ)) → Result (List Row) RowFault
rows_after_header columns [] = Err BadHeader
rows_after_header columns (header ∷ records) = if is_header columns header then Ok (rows_from 2 records) else Err BadHeader

-- the rows, where there is no fault and each has the width
abbrev pub rows_checked : ℕ → Result (List Row) RowFault → Result (List Row) RowFault
rows_checked width (Ok rows) = rows_of_width width rows
rows_checked width (Err fault) = Err fault

-- the rows of a page with these columns, or the first fault
abbrev pub rows_in : List ℕ → List ℕ → Result (List Row) RowFault
rows_in columns page = rows_checked (length (columns_of columns)) (rows_after_header (columns_of columns) (records_in page))

-- this fault is there, or memory ran out
abbrev pub IsFaultOf : Result (List Row) RowFault → RowFault → Type 0
IsFaultOf read BadHeader = read ≡ Err BadHeader
IsFaultOf read (BadRow line) = read ≡ Err (BadRow line)
IsFaultOf read (NotUtf8 line) = read ≡ Err (NotUtf8 line)
IsFaultOf read Memory = ⊤
