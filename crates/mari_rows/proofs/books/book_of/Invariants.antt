use Rattle.std.proofs.Common.{◌≡◌, List, length}
use Rattle.mari_rows.specs.Rows.{first_row_fault}
use Rattle.mari_rows.specs.Widths.{KnowsWide}
use Rattle.mari_rows.specs.declared.rows.Row.{Row}
use Rattle.mari_rows.proofs.BookLemmas.{IsReadTo}
use Rattle.mari_rows.proofs.books.book_of.Given as goal

-- the rows so far have no fault, their lines are not refused, and the book so far is theirs
abbrev pub invariant-lines : goal.invariant-lines
invariant-lines g l = record {
  earlier : List Row;
  same : g.S.BookSoFar.grammar l.so_far ≡ g.S.BookSoFar.grammar l.initial.so_far;
  read : IsReadTo (g.S.BookSoFar.grammar l.initial.so_far) earlier l.lines.rows l.initial.lines.rows;
  known : KnowsWide l.lines;
  faults : first_row_fault l.lines.width l.lines.rows ≡ first_row_fault l.initial.lines.width l.initial.lines.rows;
  holds : g.S.BookSoFar.Holds l.so_far earlier;
}

abbrev pub decreases-lines : goal.decreases-lines
decreases-lines g l = length l.lines.rows
