use Rattle.std.proofs.Common.{subst}
use Rattle.mari_check.specs.Day.{IsFreeIn}
use Rattle.mari_check.specs.Faults.{FindsNumber}
use Rattle.mari_check.proofs.Ending.{after-is, few-runs}
use Rattle.mari_check.proofs.day.DayCheck.block_verdict.Goals as goal

pub next_run-run-requires : goal.next_run-run-requires
next_run-run-requires c = let s = c.requires.stands in few-runs c.args.books.now c.requires.accepted s.0 c.args.self.now s.1

pub returns-in-Some-clause-states : goal.returns-in-Some-clause-states
returns-in-Some-clause-states c = λ blocks checked.
    let books = c.args.books.now in (
      after-is books c.requires.accepted blocks c.args.self.now checked c.next_run-run.result c.next_run-run.ensures,
      subst (FindsNumber (IsFreeIn books c.args.self.now.budget blocks c.args.block.now)) c.in-Some.is (c.in_ok-fault.ensures.finds blocks checked),
    )
