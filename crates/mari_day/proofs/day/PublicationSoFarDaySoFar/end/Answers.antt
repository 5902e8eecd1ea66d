use Rattle.std.proofs.Common.{◌++◌, ◌-◌, ◌∙◌, sym, ap, arith}
use Rattle.mari_publish.proofs.Counts.{both_kinds}
use Rattle.mari_publish.specs.Texts.{total_text_of}
use Rattle.mari_progress.proofs.Sums.{provider-lines}
use Rattle.mari_day.specs.Day.{part_text}
use Rattle.mari_day.specs.Progress.{PrintsWhole}
use Rattle.mari_day.proofs.Days.{day-of-blocks, others, printed, same-closing}
use Rattle.mari_day.proofs.Framing.{made-as}
use Rattle.mari_day.proofs.day.PublicationSoFarDaySoFar.end.Goals as goal

pub overflow_sub-unpublished : goal.overflow_sub-unpublished
overflow_sub-unpublished g c =
    let s = c.requires in
    omega (arith, c.run_count.ensures, s.2, s.1.kept.published, both_kinds s.0)

pub end_text-requires-clause-kept : goal.end_text-requires-clause-kept
end_text-requires-clause-kept g c = let s = c.requires in (s.0, s.1.kept)

pub returns : goal.returns
returns g c = λ blocks part keeps every.
    let day = c.args.self.now in
    let books = day.books.now in
    let p = day-of-blocks books keeps.accepted keeps.dated day.budget keeps.nodes blocks part keeps.fits day.progress keeps.kept every in
    let rest = others books keeps.accepted keeps.dated day.budget keeps.nodes blocks part keeps.fits day.progress keeps.kept every in
    made-as (λ t. t.items) c.end_text.result _ (total_text_of p) (λ text. PrintsWhole (books, day.budget) day.progress.published (part_text books day.budget blocks ++ text))
    (c.end_text.ensures blocks keeps.kept)
    (same-closing _ _ _ _ _ _ _ _ (sym keeps.kept.totals.operators) (sym (provider-lines books blocks day.progress.totals keeps.kept.totals)) keeps.kept.published
    (ap (λ n. n - day.progress.published) c.run_count.ensures ∙ rest))
    (printed books keeps.accepted keeps.dated day.budget keeps.nodes blocks part keeps.fits day.progress keeps.kept every)
