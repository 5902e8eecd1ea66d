use Rattle.std.proofs.Common.{arith}
use Rattle.std.proofs.lemmas.Bool.{both_ways}
use Rattle.mari_check.proofs.Ending.{few-runs, is-missing, is-valid, other-totals}
use Rattle.mari_check.proofs.day.DayCheck.end.Goals as goal

pub overflow_add-self : goal.overflow_add-self
overflow_add-self c = let s = c.requires.stands in omega (arith, few-runs c.args.books.now c.requires.accepted s.0 c.args.self.now s.1)

pub returns-then-self-runs : goal.returns-then-self-runs
returns-then-self-runs c = λ p head budget checked first second.
    is-missing c.args.books.now p head c.args.self.now budget checked c.next_run.result c.number.result
    (omega (arith, c.if-self-runs.true, c.run_count-runs.ensures)) c.next_run.ensures c.number.ensures

pub returns-then-not-has_totals : goal.returns-then-not-has_totals
returns-then-not-has_totals c = λ p head budget checked first second.
    other-totals c.args.books.now p head c.args.self.now budget checked c.run_count-runs.result c.run_count-runs.ensures (omega (arith, c.if-self-runs.false)) c.number-then-not-has_totals.result
    (λ h. absurd (both_ways c.has_totals.result c.if-not-has_totals.true ((c.has_totals.ensures p checked.progress.totals first second).1 h))) c.number-then-not-has_totals.ensures

pub returns : goal.returns
returns c = λ p head budget checked first second. (
  is-valid c.args.books.now p head c.args.self.now budget checked c.run_count-runs.result c.run_count-runs.ensures (omega (arith, c.if-self-runs.false))
      ((c.has_totals.ensures p checked.progress.totals first second).0 c.if-not-has_totals.false),
  checked.progress.published,
  checked.unpublished,
)
