use Rattle.std.proofs.Common.{◌≡◌, ℕ, List, arith, refl, subst}
use Rattle.mari_publish.specs.declared.publication.Block.{Block}
use Rattle.mari_publish.specs.declared.publication.FullBlock.{FullBlock}
use Rattle.mari_remain.specs.declared.books.Books.{Books}
use Rattle.mari_progress.specs.declared.progress.SettledRun.{SettledRun}
use Rattle.mari_progress.specs.Runs.{IsNextRun}
use Rattle.mari_check.specs.Checked.{TestsBlock}
use Rattle.mari_check.specs.declared.day.TestedBlock.{TestedBlock}
use Rattle.mari_check.specs.declared.day.TestedBlock.TheVariants.{Faulty, Sound}
use Rattle.mari_check.proofs.DayRuns.{past-last}
use Rattle.mari_check.proofs.Ending.{after-is, few-runs}
use Rattle.mari_check.proofs.Progressing.{published-added, sound-run}
use Rattle.mari_check.proofs.day.DayCheck.take_published.Goals as goal

tested-as : (books : Books) (budget : ℕ) (blocks : List Block) (b : FullBlock) (t u : TestedBlock) → t ≡ u → TestsBlock books budget blocks b t → TestsBlock books budget blocks b u
tested-as books budget blocks b t u e h = subst (TestsBlock books budget blocks b) e h

next-run : (books : Books) (budget : ℕ) (blocks : List Block) (b : FullBlock) (settled : SettledRun) → TestsBlock books budget blocks b (Sound settled) → IsNextRun books blocks b settled
next-run books budget blocks b settled sound = record { sound = sound-run books budget blocks b sound.0; adds = sound.1 }

pub next_run-run-requires : goal.next_run-run-requires
next_run-run-requires c = let s = c.requires.stands in few-runs c.args.books.now c.requires.accepted s.0 c.args.self.now s.1

pub returns-then-run-run_count-clause-finds : goal.returns-then-run-run_count-clause-finds
returns-then-run-run_count-clause-finds c = λ blocks checked.
    let is = after-is c.args.books.now c.requires.accepted blocks c.args.self.now checked c.next_run-run.result c.next_run-run.ensures in
    past-last c.args.books.now c.args.self.now.budget blocks c.args.block.now (omega (arith, is, c.if-run-run_count.true, c.run_count.ensures))

pub test_published-requires-clause-stands : goal.test_published-requires-clause-stands
test_published-requires-clause-stands c =
    let s = c.requires.stands in
    (s.0, s.1, after-is c.args.books.now c.requires.accepted s.0 c.args.self.now s.1 c.next_run-run.result c.next_run-run.ensures)

pub add-requires-clause-next : goal.add-requires-clause-next
add-requires-clause-next c =
    let books = c.args.books.now in
    let s = c.requires.stands in
    let is = after-is books c.requires.accepted s.0 c.args.self.now s.1 c.next_run-run.result c.next_run-run.ensures in
    let sound = tested-as books c.args.self.now.budget s.0 c.args.block.now c.in_ok-fault.field-0 (Sound c.in-Sound.settled) c.in-Sound.is (c.in_ok-fault.ensures s.0 s.1 is) in
    (s.0, c.args.block.now, s.1.progress, is, next-run books c.args.self.now.budget s.0 c.args.block.now c.in-Sound.settled sound)

pub returns-in-Faulty-clause-finds : goal.returns-in-Faulty-clause-finds
returns-in-Faulty-clause-finds c = λ blocks checked.
    let books = c.args.books.now in
    let is = after-is books c.requires.accepted blocks c.args.self.now checked c.next_run-run.result c.next_run-run.ensures in
    tested-as books c.args.self.now.budget blocks c.args.block.now c.in_ok-fault.field-0 (Faulty c.in-Faulty.fault) c.in-Faulty.is (c.in_ok-fault.ensures blocks checked is)

pub returns-in-Sound-clause-finds : goal.returns-in-Sound-clause-finds
returns-in-Sound-clause-finds c = λ blocks checked.
    let books = c.args.books.now in
    let is = after-is books c.requires.accepted blocks c.args.self.now checked c.next_run-run.result c.next_run-run.ensures in
    let sound = tested-as books c.args.self.now.budget blocks c.args.block.now c.in_ok-fault.field-0 (Sound c.in-Sound.settled) c.in-Sound.is (c.in_ok-fault.ensures blocks checked is) in
    sound.0

pub returns-in-Sound-clause-stands : goal.returns-in-Sound-clause-stands
returns-in-Sound-clause-stands c = λ blocks checked none.
    let books = c.args.books.now in
    let is = after-is books c.requires.accepted blocks c.args.self.now checked c.next_run-run.result c.next_run-run.ensures in
    let sound = tested-as books c.args.self.now.budget blocks c.args.block.now c.in_ok-fault.field-0 (Sound c.in-Sound.settled) c.in-Sound.is (c.in_ok-fault.ensures blocks checked is) in
    let added = c.add.ensures blocks c.args.block.now checked.progress is (next-run books c.args.self.now.budget blocks c.args.block.now c.in-Sound.settled sound) in
    published-added books blocks c.args.self.now checked c.args.block.now sound.0 _ added refl refl
