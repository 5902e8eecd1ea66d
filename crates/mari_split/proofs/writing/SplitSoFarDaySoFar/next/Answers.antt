use Rattle.std.proofs.Common.{◌≡◌, ◌≤◌, ◌+◌, ℕ, List, [], ◌∷◌, ◌++◌, Option, Some, None, length, sym, subst, arith}
use Rattle.mari_remain.specs.declared.books.Books.{Books}
use Rattle.mari_progress.specs.declared.progress.SettledRun.{SettledRun}
use Rattle.mari_split.specs.declared.run.SplitDone.{SplitDone}
use Rattle.mari_split.specs.declared.split.SplitBlock.{SplitBlock}
use Rattle.mari_progress.specs.declared.progress.Progress.{Progress}
use Rattle.mari_progress.specs.Progress.{IsProgress}
use Rattle.mari_day.specs.Frame.{MakesNext}
use Rattle.mari_split.specs.Lines.{split_block_text}
use Rattle.mari_split.specs.Split.{IsSplitBlock, blocks_of}
use Rattle.mari_split.specs.Steps.{AddsToDay, IsSplitDone, KeepsSplit}
use Rattle.mari_split.specs.declared.writing.SplitSoFar.{SplitSoFar}
use Rattle.mari_split.proofs.Progressing.{none_more, run_of, some_more, some_run}
use Rattle.mari_split.proofs.writing.SplitSoFarDaySoFar.next.Goals as goal
use Rattle.mari_split.proofs.writing.SplitSoFarDaySoFar.next.Goals.{in-Some, in_default}

own : (books : Books) (budget : ℕ) (blocks : List SplitBlock) (done : SplitDone)
    → IsSplitDone books budget blocks done → (settled : Option SettledRun) → done.settled ≡ settled
    → AddsToDay books blocks done.block settled
own books budget blocks done is settled e = let P : Option SettledRun → Type 0 = λ s. AddsToDay books blocks done.block s in subst P e is.settled

pub run_split-requires-clause-stands : goal.run_split-requires-clause-stands
run_split-requires-clause-stands g c = let s = c.requires.kept in (s.0, s.1.kept, run_of s.0 c.args.run s.2)

pub add-requires-clause-next : goal.add-requires-clause-next
add-requires-clause-next g c =
    let day = c.args.self.now in
    let books = day.books.now in
    let s = c.requires.kept in
    let is = run_of s.0 c.args.run s.2 in
    let done = c.in_ok-block.ensures.done s.0 s.1.kept is in
    let settled = own books day.budget s.0 c.in_ok-block.field-0 done (Some c.in-Some.settled) c.in-Some.is in
    let run = some_run books day.budget s.0 day.progress s.1.kept (omega (arith, s.2, c.requires.last)) c.in_ok-block.field-0.block done.block c.in-Some.settled settled in
    (blocks_of s.0, run.0, s.1.kept, is, run.1)

pub returns-clause-next : goal.returns-clause-next
returns-clause-next g c = λ blocks keeps is.
    let day = c.args.self.now in
    let books = day.books.now in
    let run = c.in_ok-block.field-0 in
    let last : length blocks + 1 ≤ length books.runs.runs = omega (arith, is, c.requires.last) in
    let after = run_of blocks c.args.run is in
    let done = c.in_ok-block.ensures.done blocks keeps.kept after in
    let Next : SplitSoFar → Type 0 =
    λ d. MakesNext (split_block_text books.zones.zones) (IsSplitBlock books day.budget) (λ bs. KeepsSplit d.books.now d.budget bs d.progress) blocks c.in_ok-text.text.items in
    let next : (kept : Progress) → IsProgress books (blocks_of (blocks ++ run.block ∷ [])) kept → Next (record day { progress = kept }) =
    λ kept is. record {
      block = run.block;
      is_next = done.block;
      keeps = record { accepted = keeps.accepted; dated = keeps.dated; nodes = keeps.nodes; kept = is };
      spelled = c.in_ok-text.ensures;
    } in
    elim c.match-settled-2.branch [
      | in-Some w ↦ (
          let settled = own books day.budget blocks run done (Some w.in-Some.settled) w.in-Some.is in
          let kept =
          some_more books day.budget blocks day.progress keeps.kept last run.block done.block w.in-Some.settled settled _ (λ b adds. w.add.ensures (blocks_of blocks) b keeps.kept after adds) in
          subst Next (sym w.self-is) (next _ kept))
      | in_default w ↦ (
          let settled = own books day.budget blocks run done None w.in_default.is in
          let kept = none_more books day.budget blocks day.progress keeps.kept last keeps.accepted run.block done.block settled in
          subst Next (sym w.self-is) (next _ kept))
    ]
