-- The lines of a status.
use Rattle.std.specs.Prelude.{ℕ, List, [], ◌∷◌, ◌++◌, unwrap_or}
use lib.Chars.{codes}
use Rattle.std.specs.Fmt.{decimal}
use Rattle.mari_units.specs.declared.faults.Refusal.{Refusal}
use Rattle.mari_io.specs.declared.shelf.Fetch.{Fetch}
use Rattle.mari_io.specs.declared.shelf.Fetch.TheVariants as fetch
use Rattle.mari_day.specs.Files.{file_named}
use Rattle.mari_answers.specs.declared.status.Status.{Status}
use Rattle.mari_answers.specs.declared.status.Status.TheVariants as status
use Rattle.mari_answers.specs.Refusals.{check_name}

-- the word of a page that can't be had; there is none when out of memory
abbrev pub page_word : Fetch → List ℕ
page_word fetch.Failed = codes "readfault"
page_word fetch.Missing = codes "missing"
page_word fetch.TooLong = codes "toolong"
page_word fetch.Memory = []

-- the status of a page that can't be had
abbrev pub page_status : Fetch → Status
page_status fetch.Failed = status.ReadFault
page_status fetch.Missing = status.Missing
page_status fetch.TooLong = status.TooLong
page_status fetch.Memory = status.Memory

-- the line of a file, by its number from 1, whose page can't be had
abbrev pub file_line : List ℕ → ℕ → List ℕ
file_line word file = word ++ 32 ∷ file_named file ++ 10 ∷ []

-- the line of a refusal: the file, the line in it, and the check by its number and its name
abbrev pub refused_line : Refusal → List ℕ
refused_line r =
    codes "refused " ++ file_named r.file ++ 32 ∷ decimal r.line ++ 32 ∷ decimal r.number ++ 32 ∷ unwrap_or (check_name r.file r.number) [] ++ 10 ∷ []

-- a line of a word and two numbers
abbrev pub pair_line : List ℕ → ℕ → ℕ → List ℕ
pair_line word first second = word ++ decimal first ++ 32 ∷ decimal second ++ 10 ∷ []

-- the line of a publication that is valid, with two numbers of its blocks: of the first form how many are published and how
-- many aren't, of the second how many state the first activation and how many one within a gap
abbrev pub valid_line : ℕ → ℕ → List ℕ
valid_line first second = pair_line (codes "valid ") first second

-- the line of a publication that isn't: the first run that has a fault, and the fault's number
abbrev pub invalid_line : ℕ → ℕ → List ℕ
invalid_line run fault = pair_line (codes "invalid ") run fault
