use Rattle.std.proofs.Common.{◌∙◌, arith, sym}
use Rattle.mari_check.proofs.Ending.{few-runs, next-is, none-next}
use Rattle.mari_check.proofs.day.DayCheck.is_next.Goals as goal

pub next_run-run-requires : goal.next_run-run-requires
next_run-run-requires c = let s = c.requires.stands in few-runs c.args.books.now c.requires.accepted s.0 c.args.self.now s.1

pub returns-then-run-run_count : goal.returns-then-run-run_count
returns-then-run-run_count c = λ blocks checked.
    none-next c.args.books.now c.requires.accepted blocks c.args.self.now checked c.next_run-run.result c.next_run-run.ensures c.args.reported
    (omega (arith, c.if-run-run_count.true, c.run_count.ensures))

pub returns : goal.returns
returns c = λ blocks checked.
    next-is c.args.books.now c.requires.accepted blocks c.args.self.now checked c.next_run-run.result c.next_run-run.ensures c.args.reported
    c.is_same_heading.result (omega (arith, c.if-run-run_count.false, c.run_count.ensures))
    (λ t. c.is_same_heading.ensures.0 t ∙ c.heading.ensures, λ e. c.is_same_heading.ensures.1 (e ∙ sym c.heading.ensures))
