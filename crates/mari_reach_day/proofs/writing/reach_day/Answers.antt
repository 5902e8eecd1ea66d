use Rattle.std.proofs.Common.{◌≡◌, ◌≤◌, ◌-◌, ℕ, List, length, subst, arith}
use Rattle.mari_remain.specs.declared.books.Books.{Books}
use Rattle.mari_day.specs.declared.frame.Stop.TheVariants.{Sink}
use Rattle.mari_day.proofs.Framing.{stopped-as}
use Rattle.mari_reach_day.specs.Days.{IsReachPartText, IsWholeReachText}
use Rattle.mari_reach_day.specs.Steps.{PrintsWholeReach}
use Rattle.mari_reach_day.proofs.Counts.{both_kinds}
use Rattle.mari_reach_day.proofs.writing.reach_day.Goals as goal

-- what is said of the day at its end, of the books that it began with
of_same : (before after : Books × ℕ) → after ≡ before → (first : ℕ) (text : List ℕ) → PrintsWholeReach after first text → PrintsWholeReach before first text
of_same before after e first text is = let P : Books × ℕ → Type 0 = λ of. PrintsWholeReach of first text in subst P e is

few_first : (books : Books) (budget first : ℕ) (text : List ℕ) → PrintsWholeReach (books, budget) first text → first ≤ length books.runs.runs
few_first books budget first text is = omega (arith, is.counted, is.day.every, both_kinds is.blocks)

pub overflow_sub-result : goal.overflow_sub-result
overflow_sub-result g c =
    let books = c.args.books.now in
    let budget = c.args.budget in
    let first = c.write_day.new.day.first in
    let e = c.in-Ok-write_day.ensures in
    omega (arith, c.run_count.ensures, few_first books budget first e.ends.text (of_same (books, budget) _ e.same first e.ends.text e.ends.is_text))

pub returns-in-Err-Sink-clause-day : goal.returns-in-Err-Sink-clause-day
returns-in-Err-Sink-clause-day g c =
    let books = c.args.books.now in
    let budget = c.args.budget in
    let day = c.write_day.new.day in
    let e = c.in-Err-Sink in
    let whole : (text : List ℕ) → PrintsWholeReach (day.books.now, day.budget) day.first text → IsWholeReachText books budget text =
    λ text is. (day.first, length books.runs.runs - day.first, of_same (books, budget) _ e.ensures.same day.first text is) in
    stopped-as (IsReachPartText books budget) (PrintsWholeReach (day.books.now, day.budget) day.first) (IsWholeReachText books budget) _ _ Sink whole (rw e.field-0-is at e.ensures.ends)
