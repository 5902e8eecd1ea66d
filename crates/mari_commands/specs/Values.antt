-- The line of a status after the values of limits, and that status.
use Rattle.std.specs.Prelude.{◌≡◌, ℕ, List, []}
use Rattle.mari_io.specs.declared.shelf.Fetch.TheVariants as fetch
use Rattle.mari_publish.specs.declared.fault.TextFault.TheVariants as text_fault
use Rattle.mari_day.specs.declared.files.TheConstants.{PUBLICATION}
use Rattle.mari_capacity.specs.declared.ending.ValueEnd.{ValueEnd}
use Rattle.mari_capacity.specs.declared.ending.ValueEnd.TheVariants as values
use Rattle.mari_answers.specs.declared.status.Status.{Status}
use Rattle.mari_answers.specs.declared.status.Status.TheVariants as status
use Rattle.mari_answers.specs.Texts.{text_refusal}
use Rattle.mari_answers.specs.Lines.{file_line, invalid_line, page_status, page_word, refused_line}

-- the line that stands after the lines of checked blocks; after those of a valid publication there is none
abbrev pub value_line : ValueEnd → List ℕ
value_line (values.Valid published unpublished) = []
value_line (values.Invalid run fault) = invalid_line run fault
value_line (values.Text fault) = refused_line (text_refusal fault)
value_line (values.Fetch fetch.Memory) = []
value_line (values.Fetch why) = file_line (page_word why) PUBLICATION

-- its status
abbrev pub value_status : ValueEnd → Status
value_status (values.Valid published unpublished) = status.Done
value_status (values.Invalid run fault) = status.Invalid run fault
value_status (values.Text text_fault.Memory) = status.Memory
value_status (values.Text fault) = status.Refused (text_refusal fault)
value_status (values.Fetch why) = page_status why

-- a line and a status are those of this end
pub record IsEnding (end : ValueEnd) (line : List ℕ) (s : Status) : Type 0 where
  pub line_is : line ≡ value_line end
  pub status_is : s ≡ value_status end
