-- The header of a page.
use Rattle.std.specs.Prelude.{ℕ, Bool, false, List, [], ◌∷◌}
use Rattle.mari_rows.specs.Records.{records_in}
use Rattle.mari_rows.specs.Rows.{columns_of, is_header}

-- whether the first of these records is the column names
abbrev pub is_headed : List (List ℕ) → List (List (List ℕ)) → Bool
is_headed columns [] = false
is_headed columns (header ∷ records) = is_header columns header

-- whether the first record of a page is these columns
abbrev pub has_header : List ℕ → List ℕ → Bool
has_header columns page = is_headed (columns_of columns) (records_in page)
