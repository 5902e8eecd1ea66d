-- Pages as they are printed, with no field in quotes.
use Rattle.std.specs.Prelude.{ℕ, List, [], ◌∷◌, ◌++◌}
use Rattle.std.specs.List.{flat_map, join_with_byte}

-- a line: its fields with commas between, and the line's end
abbrev pub line_of : List (List ℕ) → List ℕ
line_of fields = join_with_byte 44 fields ++ 10 ∷ []

-- a page: the names of its columns, with commas between, and then its records, a line each
abbrev pub page_text : List ℕ → List (List (List ℕ)) → List ℕ
page_text columns records = columns ++ 10 ∷ flat_map line_of records
