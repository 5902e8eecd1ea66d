use Rattle.std.proofs.Common.{[], arith, refl}
use Rattle.std.proofs.lemmas.Bool.{both_ways}
use Rattle.mari_publish.specs.declared.publication.Publication.{Publication}
use Rattle.mari_reach_check.specs.Day.{all_printed}
use Rattle.mari_reach_check.proofs.Days.{after_is, as_many, few_blocks, few_runs, first_few}
use Rattle.mari_reach_check.proofs.day.ReachDayCheck.end.Goals as goal

pub next_run-requires : goal.next_run-requires
next_run-requires c = let s = c.requires.stands in few_runs c.args.books.now c.requires.accepted s.0 c.args.self.now s.1

pub has_totals-requires-clause-stands : goal.has_totals-requires-clause-stands
has_totals-requires-clause-stands c = let s = c.requires.stands in (all_printed s.0, s.1.progress.few, s.1.progress.totals)

pub returns-then-self-run_count : goal.returns-then-self-run_count
returns-then-self-run_count c = λ blocks checked. (
  omega (arith, c.if-self-run_count.true, c.run_count.ensures, as_many c.args.books.now c.requires.accepted blocks c.args.self.now checked),
  after_is c.args.books.now c.requires.accepted blocks c.args.self.now checked c.next_run.result c.next_run.ensures,
)

pub returns-then-not-has_totals : goal.returns-then-not-has_totals
returns-then-not-has_totals c = λ blocks checked. (
  omega (
    arith,
    c.if-self-run_count.false,
    c.run_count.ensures,
    as_many c.args.books.now c.requires.accepted blocks c.args.self.now checked,
    few_blocks c.args.books.now c.requires.accepted blocks c.args.self.now checked,
  ),
  λ sums.
      let p : Publication = (record { date = []; quarters = 0; budget = 0; blocks = all_printed blocks; operators = c.args.operators.now; providers = c.args.providers.now }) in
      both_ways c.has_totals.result c.if-not-has_totals.true ((c.has_totals.ensures p checked.progress.totals refl refl).1 (record { operators = sums.operators_are; providers = sums.providers_are })),
)

pub overflow_sub-result : goal.overflow_sub-result
overflow_sub-result c = let s = c.requires.stands in omega (arith, s.1.counted, first_few s.0, as_many c.args.books.now c.requires.accepted s.0 c.args.self.now s.1)

pub returns : goal.returns
returns c = λ blocks checked.
    let p : Publication = (record { date = []; quarters = 0; budget = 0; blocks = all_printed blocks; operators = c.args.operators.now; providers = c.args.providers.now }) in
    let totals = (c.has_totals.ensures p checked.progress.totals refl refl).0 c.if-not-has_totals.false in (
      omega (
        arith,
        c.if-self-run_count.false,
        c.run_count.ensures,
        as_many c.args.books.now c.requires.accepted blocks c.args.self.now checked,
        few_blocks c.args.books.now c.requires.accepted blocks c.args.self.now checked,
      ),
      record { operators_are = totals.operators; providers_are = totals.providers },
      checked.counted,
      omega (arith, checked.counted, first_few blocks, as_many c.args.books.now c.requires.accepted blocks c.args.self.now checked),
    )
