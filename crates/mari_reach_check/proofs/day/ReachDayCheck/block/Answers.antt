use Rattle.std.proofs.Common.{◌+◌, arith, refl, ap}
use Rattle.mari_reach_check.specs.declared.day.Tested.TheVariants.{Faulty, Sound}
use Rattle.mari_reach_check.specs.Day.{all_printed}
use Rattle.mari_reach_text.proofs.Accepted.{at_most_one}
use Rattle.mari_reach_check.proofs.Days.{after_is, as_many, few_runs, first_few, next-run, one_more, past_last, tested-as}
use Rattle.mari_reach_check.proofs.day.ReachDayCheck.block.Goals as goal

pub next_run-run-requires : goal.next_run-run-requires
next_run-run-requires c = let s = c.requires.stands in few_runs c.args.books.now c.requires.accepted s.0 c.args.self.now s.1

pub returns-then-run-run_count-clause-finds : goal.returns-then-run-run_count-clause-finds
returns-then-run-run_count-clause-finds c = λ blocks checked.
    let is = after_is c.args.books.now c.requires.accepted blocks c.args.self.now checked c.next_run-run.result c.next_run-run.ensures in
    past_last c.args.books.now c.args.self.now.budget blocks c.args.block (omega (arith, is, c.if-run-run_count.true, c.run_count.ensures))

pub test-requires-clause-stands : goal.test-requires-clause-stands
test-requires-clause-stands c = let s = c.requires.stands in (s.0, s.1, after_is c.args.books.now c.requires.accepted s.0 c.args.self.now s.1 c.next_run-run.result c.next_run-run.ensures)

pub add-requires-clause-next : goal.add-requires-clause-next
add-requires-clause-next c =
    let s = c.requires.stands in
    let is = after_is c.args.books.now c.requires.accepted s.0 c.args.self.now s.1 c.next_run-run.result c.next_run-run.ensures in
    let sound = tested-as c.args.books.now c.args.self.now.budget s.0 c.args.block c.in_ok-fault.field-0 (Sound c.in-Sound.settled) c.in-Sound.is (c.in_ok-fault.ensures s.0 s.1 is) in
    (all_printed s.0, c.args.block.block, s.1.progress, is, next-run c.args.books.now c.args.self.now.budget s.0 c.args.block c.in-Sound.settled sound)

pub overflow_add-self : goal.overflow_add-self
overflow_add-self c =
    let s = c.requires.stands in
    omega (
      arith,
      s.1.counted,
      first_few s.0,
      as_many c.args.books.now c.requires.accepted s.0 c.args.self.now s.1,
      few_runs c.args.books.now c.requires.accepted s.0 c.args.self.now s.1,
      c.one_if_first-count.ensures,
      at_most_one c.args.block.claim,
    )

pub returns-in-Faulty-clause-finds : goal.returns-in-Faulty-clause-finds
returns-in-Faulty-clause-finds c = λ blocks checked.
    let is = after_is c.args.books.now c.requires.accepted blocks c.args.self.now checked c.next_run-run.result c.next_run-run.ensures in
    tested-as c.args.books.now c.args.self.now.budget blocks c.args.block c.in_ok-fault.field-0 (Faulty c.in-Faulty.fault) c.in-Faulty.is (c.in_ok-fault.ensures blocks checked is)

pub returns-in-Sound-clause-finds : goal.returns-in-Sound-clause-finds
returns-in-Sound-clause-finds c = λ blocks checked.
    let is = after_is c.args.books.now c.requires.accepted blocks c.args.self.now checked c.next_run-run.result c.next_run-run.ensures in
    let sound = tested-as c.args.books.now c.args.self.now.budget blocks c.args.block c.in_ok-fault.field-0 (Sound c.in-Sound.settled) c.in-Sound.is (c.in_ok-fault.ensures blocks checked is) in
    sound.0

pub returns-in-Sound-clause-stands : goal.returns-in-Sound-clause-stands
returns-in-Sound-clause-stands c = λ blocks checked none.
    let is = after_is c.args.books.now c.requires.accepted blocks c.args.self.now checked c.next_run-run.result c.next_run-run.ensures in
    let sound = tested-as c.args.books.now c.args.self.now.budget blocks c.args.block c.in_ok-fault.field-0 (Sound c.in-Sound.settled) c.in-Sound.is (c.in_ok-fault.ensures blocks checked is) in
    let added = c.add.ensures (all_printed blocks) c.args.block.block checked.progress is (next-run c.args.books.now c.args.self.now.budget blocks c.args.block c.in-Sound.settled sound) in
    one_more c.args.books.now blocks c.args.self.now checked c.args.block sound.0 _ added refl (ap (λ n. c.args.self.now.first + n) c.one_if_first-count.ensures)
