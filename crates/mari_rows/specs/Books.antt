-- A book from its page: the checks of its lines, the first that fails, and what its lines say.
use Rattle.std.specs.Prelude.{◌≡◌, ℕ, Bool, List, [], ◌∷◌, Option, Some, None, Result, Ok, Err, if◌then◌else◌, option_map, ⊤}
use Rattle.std.specs.Option.{option_or}
use Rattle.mari_rows.specs.Checks.{row_check_number}
use Rattle.mari_rows.specs.declared.checks.RowCheck.TheVariants as check
use Rattle.mari_rows.specs.First.{first_fault, unless_fault}
use Rattle.mari_rows.specs.Rows.{rows_in}
use Rattle.mari_rows.specs.declared.faults.BookFault.{BookFault}
use Rattle.mari_rows.specs.declared.faults.BookFault.TheVariants as refused
use Rattle.mari_rows.specs.declared.faults.RowFault.{RowFault}
use Rattle.mari_rows.specs.declared.faults.RowFault.TheVariants as unread
use Rattle.mari_rows.specs.declared.rows.Row.{Row}

-- checks in their order: whether each fails, and its number
abbrev pub Checks : Type 0
Checks = List (Bool × ℕ)

-- the number of the first check that fails
abbrev pub first_failing : Checks → Option ℕ
first_failing [] = None
first_failing (check ∷ checks) = if check.0 then Some check.1 else first_failing checks

-- what makes a page a book
pub record Grammar (Book : Type 0) : Type 0 where
  -- the names of its columns, with commas between
  pub columns : List ℕ
  -- the checks of a line after these lines
  pub line_checks : List Row → Row → Checks
  -- the checks of all lines together
  pub file_checks : List Row → Checks
  -- the book that lines say
  pub book : List Row → Book

-- the refusal that a fault of the rows is
abbrev pub refusal_of : RowFault → BookFault
refusal_of unread.BadHeader = refused.At 1 (row_check_number check.BadHeader)
refusal_of (unread.BadRow line) = refused.At line (row_check_number check.BadRow)
refusal_of (unread.NotUtf8 line) = refused.At line (row_check_number check.NotUtf8)
refusal_of unread.Memory = refused.Memory

module _ {Book : Type 0} (g : Grammar Book) where
  -- the refusal of a line by itself, after these lines
  abbrev pub line_refusal : List Row → Row → Option BookFault
  line_refusal earlier row = option_map (λ number. refused.At row.line number) (first_failing (g.line_checks earlier row))

  -- the first refusal of these lines: of one of them, or else of all together
  abbrev pub first_refusal : List Row → Option BookFault
  first_refusal rows = option_or (first_fault line_refusal rows) (option_map (λ number. refused.At 1 number) (first_failing (g.file_checks rows)))

  -- the book of these lines, or their first refusal
  abbrev pub book_of_rows : List Row → Result Book BookFault
  book_of_rows rows = unless_fault (first_refusal rows) (g.book rows)

  -- the same of rows that were read, or could not be
  abbrev pub book_of_read : Result (List Row) RowFault → Result Book BookFault
  book_of_read (Ok rows) = book_of_rows rows
  book_of_read (Err fault) = Err (refusal_of fault)

  -- the book of a page, or its first refusal
  abbrev pub book_in : List ℕ → Result Book BookFault
  book_in page = book_of_read (rows_in g.columns page)

-- this is the book that was to be read or its first refusal, unless memory ran out
abbrev pub GivesBook : {Book : Type 0} → Result Book BookFault → Result Book BookFault → Type 0
GivesBook (Ok book) read = read ≡ Ok book
GivesBook (Err refused.Memory) read = ⊤
GivesBook (Err (refused.At line number)) read = read ≡ Err (refused.At line number)
