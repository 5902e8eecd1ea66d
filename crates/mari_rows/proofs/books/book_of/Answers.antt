use Rattle.std.proofs.Common.{◌≡◌, ◌∙◌, ◌++◌, ◌∷◌, [], Err, rules}
use Rattle.mari_rows.specs.Books.{book_of_rows, GivesBook}
use Rattle.mari_rows.specs.Rows.{first_row_fault}
use Rattle.mari_rows.proofs.BookLemmas.{later-refused, line-refused, read-on}
use Rattle.mari_rows.proofs.RowLemmas.{fault-later}
use Rattle.mari_rows.proofs.books.book_of.Goals as goal

pub returns-in-Err : goal.returns-in-Err
returns-in-Err g c =
    let grammar = g.S.BookSoFar.grammar c.args.so_far in
    let all = c.args.lines.now in
    let inv = c.lines.invariant in
    let line = c.read.new.row in
    let rest = c.read.new.self in
    let next = c.in_ok-read.ensures.read (search rules) in
    let first = first_row_fault all.width all.rows in
    let later : first_row_fault rest.width rest.rows ≡ first =
    rw c.read.ensures.width (fault-later c.lines.lines.width line c.lines.lines.rows rest.rows next.0 first next.1 inv.faults) in
    let fails = rw inv.same at (c.in-Err.ensures.takes inv.earlier inv.holds) in
    let refused : GivesBook (Err c.at.result) (book_of_rows grammar all.rows) =
    rw c.at.ensures (line-refused grammar inv.earlier c.lines.lines.rows rest.rows all.rows line inv.read next.0
    g.S.Check.FileCheck.number c.in-Err.fault (λ done. g.S.BookSoFar.Holds c.take.new.self (inv.earlier ++ line ∷ [])) fails) in
    rw (rw later at c.in_ok-first.ensures) (later-refused grammar first all.rows c.at.result refused)

pub lines-preserved : goal.lines-preserved
lines-preserved g c =
    let grammar = g.S.BookSoFar.grammar c.args.so_far in
    let all = c.args.lines.now in
    let inv = c.lines.invariant in
    let line = c.read.new.row in
    let rest = c.read.new.self in
    let next = c.in_ok-read.ensures.read (search rules) in
    let taken = rw inv.same at (c.in_default.ensures.takes inv.earlier inv.holds) in
    let first = first_row_fault all.width all.rows in
    record {
      earlier = inv.earlier ++ line ∷ [];
      same = c.in_default.ensures.same ∙ inv.same;
      read = read-on grammar inv.earlier c.lines.lines.rows rest.rows all.rows line inv.read next.0 taken.0;
      known = c.in_ok-read.ensures.wide;
      faults = rw c.read.ensures.width (fault-later c.lines.lines.width line c.lines.lines.rows rest.rows next.0 first next.1 inv.faults);
      holds = taken.1;
    }
