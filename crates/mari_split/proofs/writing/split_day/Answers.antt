use Rattle.std.proofs.Common.{◌≡◌, ◌≤◌, ◌-◌, ℕ, List, length, subst, arith}
use Rattle.std.proofs.lemmas.List.{length-map}
use Rattle.mari_publish.proofs.Counts.{both_kinds}
use Rattle.mari_remain.specs.declared.books.Books.{Books}
use Rattle.mari_day.specs.declared.frame.Stop.TheVariants.{Sink}
use Rattle.mari_day.proofs.Framing.{stopped-as}
use Rattle.mari_split.specs.Days.{IsSplitPartText, IsWholeSplitText}
use Rattle.mari_split.specs.Split.{block_of, blocks_of}
use Rattle.mari_split.specs.Steps.{PrintsWholeSplit}
use Rattle.mari_split.proofs.writing.split_day.Goals as goal

-- what is said of the day at its end, of the books that it began with
of_same : (before after : Books × ℕ) → after ≡ before → (published : ℕ) (text : List ℕ) → PrintsWholeSplit after published text → PrintsWholeSplit before published text
of_same before after e published text is = let P : Books × ℕ → Type 0 = λ of. PrintsWholeSplit of published text in subst P e is

few_published : (books : Books) (budget published : ℕ) (text : List ℕ) → PrintsWholeSplit (books, budget) published text → published ≤ length books.runs.runs
few_published books budget published text is = omega (arith, is.counted, is.day.every, both_kinds (blocks_of is.blocks), length-map is.blocks block_of)

pub overflow_sub-result : goal.overflow_sub-result
overflow_sub-result g c =
    let books = c.args.books.now in
    let budget = c.args.budget in
    let published = c.write_day.new.day.progress.published in
    let e = c.in-Ok-write_day.ensures in
    omega (arith, c.run_count.ensures, few_published books budget published e.ends.text (of_same (books, budget) _ e.same published e.ends.text e.ends.is_text))

pub returns-in-Err-Sink-clause-day : goal.returns-in-Err-Sink-clause-day
returns-in-Err-Sink-clause-day g c =
    let books = c.args.books.now in
    let budget = c.args.budget in
    let day = c.write_day.new.day in
    let e = c.in-Err-Sink in
    let whole : (text : List ℕ) → PrintsWholeSplit (day.books.now, day.budget) day.progress.published text → IsWholeSplitText books budget text =
    λ text is. (day.progress.published, length books.runs.runs - day.progress.published, of_same (books, budget) _ e.ensures.same day.progress.published text is) in
    stopped-as (IsSplitPartText books budget) (PrintsWholeSplit (day.books.now, day.budget) day.progress.published) (IsWholeSplitText books budget) _ _ Sink whole (rw e.field-0-is at e.ensures.ends)
