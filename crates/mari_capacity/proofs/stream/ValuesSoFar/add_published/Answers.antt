use Rattle.std.proofs.Common.{ℕ, Option, arith, subst}
use Rattle.mari_check.specs.Day.{IsFreeIn}
use Rattle.mari_check.specs.Faults.{FindsNumber}
use Rattle.mari_check.proofs.Ending.{after-is, few-runs}
use Rattle.mari_capacity.proofs.Blocks.{as-many-lines, block-consistent, block-feasible, block-welfare, none-found, published-lines, run-there, worths-printable}
use Rattle.mari_capacity.proofs.stream.ValuesSoFar.add_published.Goals as goal

pub next_run-run-requires : goal.next_run-run-requires
next_run-run-requires c = few-runs c.args.books.now c.requires.accepted c.requires.stands.0 c.args.self.now.day c.requires.stands.1

pub returns-then-run-run_count-clause-lines : goal.returns-then-run-run_count-clause-lines
returns-then-run-run_count-clause-lines c = λ blocks checked lines none.
    let free = none-found (IsFreeIn c.args.books.now c.args.self.now.day.budget blocks c.args.block.now) c.block.result (c.block.ensures.finds blocks checked) none in
    let there = run-there c.args.books.now c.args.self.now.day.budget blocks c.args.block.now c.args.full.now c.requires.is free in
    let run = after-is c.args.books.now c.requires.accepted blocks c.args.self.now.day checked c.next_run-run.result c.next_run-run.ensures in
    absurd (omega (arith, there, run, c.run_count.ensures, c.if-run-run_count.true))

pub market_of-requires-clause-after : goal.market_of-requires-clause-after
market_of-requires-clause-after c =
    let s = c.requires.stands in
    (s.0, s.1.progress, after-is c.args.books.now c.requires.accepted s.0 c.args.self.now.day s.1 c.next_run-run.result c.next_run-run.ensures)

pub worths_of-requires-clause-feasible : goal.worths_of-requires-clause-feasible
worths_of-requires-clause-feasible c =
    let s = c.requires.stands in
    let run = after-is c.args.books.now c.requires.accepted s.0 c.args.self.now.day s.1 c.next_run-run.result c.next_run-run.ensures in
    let free = subst (λ (f : Option ℕ). FindsNumber (IsFreeIn c.args.books.now c.args.self.now.day.budget s.0 c.args.block.now) f) c.in-None.is (c.in_ok-fault.ensures.finds s.0 s.1) in
    block-feasible c.args.books.now c.args.self.now.day.budget s.0 c.args.block.now c.args.full.now c.requires.is c.in_ok-made.made (c.in_ok-made.ensures.market s.0 s.1.progress run) free

pub worths_of-requires-clause-consistent : goal.worths_of-requires-clause-consistent
worths_of-requires-clause-consistent c =
    let s = c.requires.stands in
    let run = after-is c.args.books.now c.requires.accepted s.0 c.args.self.now.day s.1 c.next_run-run.result c.next_run-run.ensures in
    let free = subst (λ (f : Option ℕ). FindsNumber (IsFreeIn c.args.books.now c.args.self.now.day.budget s.0 c.args.block.now) f) c.in-None.is (c.in_ok-fault.ensures.finds s.0 s.1) in
    block-consistent c.args.books.now c.args.self.now.day.budget s.0 c.args.block.now c.args.full.now c.requires.is c.in_ok-made.made (c.in_ok-made.ensures.market s.0 s.1.progress run) free

pub worths_of-requires-clause-welfare : goal.worths_of-requires-clause-welfare
worths_of-requires-clause-welfare c =
    let s = c.requires.stands in
    let run = after-is c.args.books.now c.requires.accepted s.0 c.args.self.now.day s.1 c.next_run-run.result c.next_run-run.ensures in
    let free = subst (λ (f : Option ℕ). FindsNumber (IsFreeIn c.args.books.now c.args.self.now.day.budget s.0 c.args.block.now) f) c.in-None.is (c.in_ok-fault.ensures.finds s.0 s.1) in
    block-welfare c.args.books.now c.args.self.now.day.budget s.0 c.args.block.now c.args.full.now c.requires.is c.in_ok-made.made (c.in_ok-made.ensures.market s.0 s.1.progress run) free

pub put_run-requires-clause-lengths : goal.put_run-requires-clause-lengths
put_run-requires-clause-lengths c =
    let s = c.requires.stands in
    let run = after-is c.args.books.now c.requires.accepted s.0 c.args.self.now.day s.1 c.next_run-run.result c.next_run-run.ensures in
    let free = subst (λ (f : Option ℕ). FindsNumber (IsFreeIn c.args.books.now c.args.self.now.day.budget s.0 c.args.block.now) f) c.in-None.is (c.in_ok-fault.ensures.finds s.0 s.1) in
    let feasible =
    block-feasible c.args.books.now c.args.self.now.day.budget s.0 c.args.block.now c.args.full.now c.requires.is c.in_ok-made.made (c.in_ok-made.ensures.market s.0 s.1.progress run) free in
    rw c.deref.ensures.value (as-many-lines c.in_ok-made.made.market c.args.full.now _ _ c.args.self.now.more c.in_ok-worths-in-None.worths.items feasible c.in_ok-worths-in-None.ensures)

pub put_run-requires-clause-printable : goal.put_run-requires-clause-printable
put_run-requires-clause-printable c =
    let s = c.requires.stands in
    let run = after-is c.args.books.now c.requires.accepted s.0 c.args.self.now.day s.1 c.next_run-run.result c.next_run-run.ensures in
    let free = subst (λ (f : Option ℕ). FindsNumber (IsFreeIn c.args.books.now c.args.self.now.day.budget s.0 c.args.block.now) f) c.in-None.is (c.in_ok-fault.ensures.finds s.0 s.1) in
    let consistent =
    block-consistent c.args.books.now c.args.self.now.day.budget s.0 c.args.block.now c.args.full.now c.requires.is c.in_ok-made.made (c.in_ok-made.ensures.market s.0 s.1.progress run) free in
    rw c.deref.ensures.value (worths-printable c.in_ok-made.made.market _ _ c.args.self.now.more c.in_ok-worths-in-None.worths.items consistent.prices c.requires.more c.in_ok-worths-in-None.ensures)

pub returns-clause-lines : goal.returns-clause-lines
returns-clause-lines c = λ blocks checked lines none.
    let run = after-is c.args.books.now c.requires.accepted blocks c.args.self.now.day checked c.next_run-run.result c.next_run-run.ensures in
    published-lines c.args.books.now c.args.self.now.day.budget blocks c.args.block.now c.args.full.now c.requires.is c.args.self.now.more
    c.in_ok-made.made c.args.self.now.lines.items c.put_run.new.text.items c.in_ok-worths-in-None.worths.items
    (c.in_ok-made.ensures.market blocks checked.progress run) lines c.in_ok-worths-in-None.ensures (rw c.deref.ensures.value at c.in_ok-put_run-in-None.ensures)
