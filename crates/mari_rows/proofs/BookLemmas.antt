-- Steps that every book takes.
use Rattle.std.proofs.Common.{◌≡◌, ◌∙◌, append_assoc, ℕ, Bool, true, false, if◌then◌else◌, Option, List, [], ◌∷◌, ◌++◌, Some, None, Result, Ok, Err, refl, sym, ap}
use Rattle.mari_rows.specs.Books.{Checks, Grammar, GivesBook, book_in, book_of_read, book_of_rows, first_failing, line_refusal, refusal_of}
use Rattle.std.specs.Prelude.{option_map, unwrap_or}
use Rattle.std.specs.Option.{option_or}
use Rattle.mari_rows.specs.First.{HasNoFault, first_fault, first_fault_after, unless_fault}
use Rattle.mari_rows.proofs.FirstMeaning.{none-means}
use Rattle.mari_rows.specs.Rows.{rows_in, IsFaultOf}
use Rattle.mari_rows.specs.Checks.{TakesLine, refusal_at}
use Rattle.mari_rows.specs.declared.checks.LineFault.{LineFault}
use Rattle.mari_rows.specs.declared.checks.LineFault.TheVariants as line_fault
use Rattle.mari_rows.specs.declared.faults.BookFault.{BookFault}
use Rattle.mari_rows.specs.declared.faults.BookFault.TheVariants as refused
use Rattle.mari_rows.specs.declared.faults.RowFault.{RowFault}
use Rattle.mari_rows.specs.declared.faults.RowFault.TheVariants.{BadHeader, BadRow, NotUtf8, Memory}
use Rattle.mari_rows.specs.declared.rows.Row.{Row}
use Rattle.mari_rows.proofs.FirstLemmas.{first_fault-go, first_fault-here}
use Rattle.mari_rows.proofs.RowLemmas.{fault-reported}

module _ {Book : Type 0} (g : Grammar Book) where
  -- these earlier lines of all are not refused, and these are left
  pub record IsReadTo (earlier lines all : List Row) : Type 0 where
    pub refusal : first_fault_after (line_refusal g) earlier lines ≡ first_fault (line_refusal g) all
    pub whole : earlier ++ lines ≡ all

  module _ (earlier lines rest all : List Row) (line : Row) (read : IsReadTo earlier lines all) (next : lines ≡ line ∷ rest) where
    -- one more line that isn't refused
    pub read-on : first_failing (g.line_checks earlier line) ≡ None → IsReadTo (earlier ++ line ∷ []) rest all
    read-on none = record {
      refusal = first_fault-go (line_refusal g) earlier lines rest line next (ap (option_map (λ number. refused.At line.line number)) none) ∙ read.refusal;
      whole = append_assoc earlier (line ∷ []) rest ∙ ap (λ l. earlier ++ l) (sym next) ∙ read.whole;
    }

    -- a line that is refused
    pub line-refused : {C X : Type 0} (number : C → ℕ) (fault : LineFault C) (Holds : X → Type 0)
        → TakesLine number (Err fault) (first_failing (g.line_checks earlier line)) Holds
        → GivesBook {Book = Book} (Err (refusal_at number fault line.line)) (book_of_rows g all)
    line-refused number (line_fault.Fails check) Holds fails =
        let here : line_refusal g earlier line ≡ Some (refused.At line.line (number check)) = ap (option_map (λ number. refused.At line.line number)) fails in
        rw (sym read.refusal, first_fault-here (line_refusal g) earlier lines rest line next here) refl
    line-refused number line_fault.Memory Holds fails = tt

  -- a fault of the rows is the first refusal
  pub fault-refused : (read : Result (List Row) RowFault) (fault : RowFault) → IsFaultOf read fault
      → GivesBook {Book = Book} (Err (refusal_of fault)) (book_of_read g read)
  fault-refused read BadHeader there = ap (book_of_read g) there
  fault-refused read (BadRow line) there = ap (book_of_read g) there
  fault-refused read (NotUtf8 line) there = ap (book_of_read g) there
  fault-refused read Memory there = tt

  -- a line is refused, and of the rows after it one may have a fault by itself
  pub later-refused : (later : Option RowFault) (rows : List Row) (refusal : BookFault) → GivesBook {Book = Book} (Err refusal) (book_of_rows g rows)
      → GivesBook {Book = Book} (Err (unwrap_or (option_map refusal_of later) refusal)) (book_of_read g (unless_fault later rows))
  later-refused None rows refusal is = is
  later-refused (Some fault) rows refusal is = fault-refused (Err fault) fault (fault-reported (Err fault) fault refl)

  -- the lines of a book: none of them is refused, nor all together, and the book is what they say
  pub record IsBookOf (rows : List Row) (book : Book) : Type 0 where
    pub lines : HasNoFault (line_refusal g) rows
    pub file : first_failing (g.file_checks rows) ≡ None
    pub says : book ≡ g.book rows

  pub book-rows : (rows : List Row) (book : Book) → book_of_rows g rows ≡ Ok book → IsBookOf rows book
  book-rows rows book read = by (first_fault (line_refusal g) rows) refl (first_failing (g.file_checks rows)) refl read
    where
      by : (lines : Option BookFault) → first_fault (line_refusal g) rows ≡ lines → (file : Option ℕ) → first_failing (g.file_checks rows) ≡ file
          → unless_fault (option_or lines (option_map (λ number. refused.At 1 number) file)) (g.book rows) ≡ Ok book → IsBookOf rows book
      by (Some fault) l file f e = cc e
      by None l (Some number) f e = cc e
      by None l None f e = record { lines = none-means (line_refusal g) rows l; file = f; says = cc e }

  -- a page that is a book
  pub book-page : (page : List ℕ) (book : Book) → book_in g page ≡ Ok book → (rows : List Row) × (rows_in g.columns page ≡ Ok rows) × IsBookOf rows book
  book-page page book read = by (rows_in g.columns page) refl read
    where
      by : (r : Result (List Row) RowFault) → rows_in g.columns page ≡ r → book_of_read g r ≡ Ok book
          → (rows : List Row) × (rows_in g.columns page ≡ Ok rows) × IsBookOf rows book
      by (Ok rows) e b = (rows, e, book-rows rows book b)
      by (Err fault) e b = cc b

  whole-book : (lines : Option BookFault) (file : Option ℕ) (rows : List Row) → lines ≡ None → file ≡ None
      → unless_fault (option_or lines (option_map (λ number. refused.At 1 number) file)) (g.book rows) ≡ Ok (g.book rows)
  whole-book lines file rows l f = rw (l, f) refl

  -- a page whose rows are not refused is the book of its rows
  pub book-read : (page : List ℕ) (rows : List Row) → rows_in g.columns page ≡ Ok rows → first_fault (line_refusal g) rows ≡ None → first_failing (g.file_checks rows) ≡ None
      → book_in g page ≡ Ok (g.book rows)
  book-read page rows read lines file = ap (book_of_read g) read ∙ whole-book (first_fault (line_refusal g) rows) (first_failing (g.file_checks rows)) rows lines file

  -- one more row that passes its checks
  pub row-passes : (earlier rows : List Row) (row : Row) → first_failing (g.line_checks earlier row) ≡ None
      → first_fault_after (line_refusal g) (earlier ++ row ∷ []) rows ≡ None → first_fault_after (line_refusal g) earlier (row ∷ rows) ≡ None
  row-passes earlier rows row none more =
      sym (first_fault-go (line_refusal g) earlier (row ∷ rows) rows row refl (ap (option_map (λ number. refused.At row.line number)) none)) ∙ more

-- checks and further ones after them
module _ (further : Checks) where
  pub first_failing-append : (checks : Checks) → first_failing (checks ++ further) ≡ option_or (first_failing checks) (first_failing further)
  first_failing-append [] = refl
  first_failing-append (check ∷ checks) = by check.0 (first_failing-append checks)
    where
      by : (b : Bool) → first_failing (checks ++ further) ≡ option_or (first_failing checks) (first_failing further)
          → (if b then Some check.1 else first_failing (checks ++ further)) ≡ option_or (if b then Some check.1 else first_failing checks) (first_failing further)
      by true more = refl
      by false more = more

-- checks of which none fails: the first, and those after it
pub passed : (check : Bool × ℕ) (checks : Checks) → first_failing (check ∷ checks) ≡ None → (check.0 ≡ false) × (first_failing checks ≡ None)
passed check checks none = by check.0 refl none
  where
    by : (b : Bool) → check.0 ≡ b → (if b then Some check.1 else first_failing checks) ≡ None → (check.0 ≡ false) × (first_failing checks ≡ None)
    by true e n = cc n
    by false e n = (e, n)
