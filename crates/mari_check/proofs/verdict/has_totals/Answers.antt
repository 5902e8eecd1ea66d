use Rattle.std.proofs.Common.{refl}
use Rattle.mari_progress.proofs.Sums.{one-each-provider}
use Rattle.mari_check.proofs.Ending.{both-totals}
use Rattle.mari_check.proofs.verdict.has_totals.Goals as goal

pub are_total_lines-requires : goal.are_total_lines-requires
are_total_lines-requires c = let s = c.requires.stands in record { one_each = rw c.as_slice.ensures (one-each-provider c.args.books.now s.0 c.args.totals.now s.2) }

pub returns : goal.returns
returns c = λ p sums first second.
    both-totals c.args.books.now p.blocks c.args.totals.now sums p refl c.args.operators.now c.args.providers.now
    first second c.are_money_lines.result (rw c.as_slice-sums.ensures at c.are_money_lines.ensures) c.if-not-are_money_lines.false
    c.are_total_lines.result (rw c.as_slice.ensures at c.are_total_lines.ensures)
