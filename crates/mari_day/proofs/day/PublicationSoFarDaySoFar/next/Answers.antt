use Rattle.std.proofs.Common.{◌≡◌, ◌≤◌, ◌+◌, ℕ, List, [], ◌∷◌, ◌++◌, Option, Some, None, length, sym, subst, arith}
use Rattle.std.proofs.lemmas.List.Elements.{All-push}
use Rattle.mari_publish.specs.Ranges.{BlockFits}
use Rattle.mari_publish.specs.declared.publication.Block.{Block}
use Rattle.mari_remain.specs.declared.books.Books.{Books}
use Rattle.mari_progress.specs.declared.progress.SettledRun.{SettledRun}
use Rattle.mari_progress.specs.declared.progress.Progress.{Progress}
use Rattle.mari_progress.specs.Progress.{IsProgress}
use Rattle.mari_publish.specs.Texts.{block_text_of}
use Rattle.mari_day.specs.Frame.{MakesNext}
use Rattle.mari_day.specs.Progress.{IsRunDone, IsSettledIn, KeepsDay}
use Rattle.mari_day.specs.Published.{IsBlock}
use Rattle.mari_day.specs.declared.day.PublicationSoFar.{PublicationSoFar}
use Rattle.mari_day.specs.declared.run.RunDone.{RunDone}
use Rattle.mari_day.proofs.Progressing.{none-more, some-more, some-run}
use Rattle.mari_day.proofs.day.PublicationSoFarDaySoFar.next.Goals as goal
use Rattle.mari_day.proofs.day.PublicationSoFarDaySoFar.next.Goals.{in-Some, in_default}

own : (books : Books) (budget : ℕ) (blocks : List Block) (done : RunDone) → IsRunDone books budget blocks done
    → (settled : Option SettledRun) → done.settled ≡ settled → IsSettledIn books blocks done.block settled
own books budget blocks done is settled e = let P : Option SettledRun → Type 0 = λ s. IsSettledIn books blocks done.block s in subst P e is.settled

pub run_done-requires-clause-stands : goal.run_done-requires-clause-stands
run_done-requires-clause-stands g c = let s = c.requires.kept in (s.0, s.1.kept, s.2)

pub add-requires-clause-next : goal.add-requires-clause-next
add-requires-clause-next g c =
    let day = c.args.self.now in
    let books = day.books.now in
    let s = c.requires.kept in
    let done = c.in_ok-block.ensures.done s.0 s.1.kept s.2 in
    let settled = own books day.budget s.0 c.in_ok-block.field-0 done (Some c.in-Some.settled) c.in-Some.is in
    let run = some-run books day.budget s.0 day.progress s.1.kept (omega (arith, s.2, c.requires.last)) c.in_ok-block.field-0.block done.block c.in-Some.settled settled in
    (s.0, run.0, s.1.kept, s.2, run.1)

pub returns-clause-next : goal.returns-clause-next
returns-clause-next g c = λ blocks keeps is.
    let day = c.args.self.now in
    let books = day.books.now in
    let run = c.in_ok-block.field-0 in
    let last : length blocks + 1 ≤ length books.runs.runs = omega (arith, is, c.requires.last) in
    let done = c.in_ok-block.ensures.done blocks keeps.kept is in
    let Next : PublicationSoFar → Type 0 =
    λ d. MakesNext block_text_of (IsBlock books day.budget) (λ bs. KeepsDay d.books.now d.budget bs d.progress) blocks c.in_ok-text.text.items in
    let next : (after : Progress) → IsProgress books (blocks ++ run.block ∷ []) after → Next (record day { progress = after }) =
    λ after kept. record {
      block = run.block;
      is_next = done.block;
      keeps = record {
        accepted = keeps.accepted;
        dated = keeps.dated;
        nodes = keeps.nodes;
        fits = All-push BlockFits blocks run.block keeps.fits c.in_ok-block.ensures.fits;
        kept = kept;
      };
      spelled = c.in_ok-text.ensures;
    } in
    elim c.match-settled-2.branch [
      | in-Some w ↦ (
          let settled = own books day.budget blocks run done (Some w.in-Some.settled) w.in-Some.is in
          let kept = some-more books day.budget blocks day.progress keeps.kept last run.block done.block w.in-Some.settled settled _ (λ b adds. w.add.ensures blocks b keeps.kept is adds) in
          subst Next (sym w.self-is) (next _ kept))
      | in_default w ↦ (
          let settled = own books day.budget blocks run done None w.in_default.is in
          let kept = none-more books day.budget blocks day.progress keeps.kept last keeps.accepted run.block done.block settled in
          subst Next (sym w.self-is) (next _ kept))
    ]
