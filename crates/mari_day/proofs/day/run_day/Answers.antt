use Rattle.std.proofs.Common.{◌≡◌, ℕ, List, subst, arith}
use Rattle.mari_remain.specs.declared.books.Books.{Books}
use Rattle.mari_day.specs.Day.{IsDayText, IsPartText}
use Rattle.mari_day.specs.Progress.{PrintsWhole}
use Rattle.mari_day.specs.declared.frame.Stop.TheVariants.{Sink}
use Rattle.mari_day.proofs.Days.{few-published}
use Rattle.mari_day.proofs.Framing.{stopped-as}
use Rattle.mari_day.proofs.day.run_day.Goals as goal

-- what is said of the day at its end, of the books that it began with
of-same : (before after : Books × ℕ) → after ≡ before → (published : ℕ) (text : List ℕ) → PrintsWhole after published text → PrintsWhole before published text
of-same before after e published text is = let P : Books × ℕ → Type 0 = λ of. PrintsWhole of published text in subst P e is

is-day-text : (books : Books) (budget published : ℕ) (text : List ℕ) → PrintsWhole (books, budget) published text → IsDayText books budget text
is-day-text books budget published text is = record { publication = is.publication; day = is.is_day; in_range = is.in_range; spelled = is.text }

pub overflow_sub-result : goal.overflow_sub-result
overflow_sub-result g c =
    let books = c.args.books.now in
    let budget = c.args.budget in
    let published = c.write_day.new.day.progress.published in
    let e = c.in-Ok-write_day.ensures in
    omega (arith, c.run_count.ensures, few-published books budget published e.ends.text (of-same (books, budget) _ e.same published e.ends.text e.ends.is_text))

pub returns-in-Err-Sink-clause-day : goal.returns-in-Err-Sink-clause-day
returns-in-Err-Sink-clause-day g c =
    let books = c.args.books.now in
    let budget = c.args.budget in
    let day = c.write_day.new.day in
    let e = c.in-Err-Sink in
    let whole : (text : List ℕ) → PrintsWhole (day.books.now, day.budget) day.progress.published text → IsDayText books budget text =
    λ text is. is-day-text books budget day.progress.published text (of-same (books, budget) _ e.ensures.same day.progress.published text is) in
    stopped-as (IsPartText books budget) (PrintsWhole (day.books.now, day.budget) day.progress.published) (IsDayText books budget) _ _ Sink whole (rw e.field-0-is at e.ensures.ends)
