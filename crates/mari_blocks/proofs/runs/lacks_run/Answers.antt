use Rattle.std.proofs.Common.{◌≡◌, ◌∙◌, ◌+◌, ◌-◌, ℕ, Bool, true, false, refl, sym, ap, arith, rules}
use Rattle.std.specs.Prelude.{is_some, not}
use Rattle.std.specs.List.{list_any, range_with_len}
use Rattle.mari_blocks.specs.Joint.{scheduled_run_of}
use Rattle.mari_blocks.proofs.Ranges.{any-in-range, any-more}
use Rattle.mari_blocks.proofs.runs.lacks_run.Goals as goal

pub returns-then-is_none : goal.returns-then-is_none
returns-then-is_none c =
    let quarter = c.loop-quarter.quarter in
    let test : ℕ → Bool = λ q. not (is_some (scheduled_run_of c.args.books.now.runs.runs q)) in
    let none : test quarter ≡ true = search rules in
    sym (any-in-range test c.args.first (c.args.last + 1 - c.args.first) quarter c.loop-quarter.auto.quarter (omega (arith, c.loop-quarter-test.true, c.loop-quarter.auto.quarter)) none)

pub loop-quarter-preserved : goal.loop-quarter-preserved
loop-quarter-preserved c =
    let quarter = c.loop-quarter.quarter in
    let first = c.args.first in
    let test : ℕ → Bool = λ q. not (is_some (scheduled_run_of c.args.books.now.runs.runs q)) in
    let some : test quarter ≡ false = search rules in
    let longer : quarter + 1 - first ≡ (quarter - first) + 1 = omega (arith, c.loop-quarter.auto.quarter) in
    let here : first + (quarter - first) ≡ quarter = omega (arith, c.loop-quarter.auto.quarter) in
    ap (λ n. list_any test (range_with_len first n)) longer ∙ any-more test first (quarter - first) quarter here ∙ rw (c.loop-quarter.invariant, some) refl
