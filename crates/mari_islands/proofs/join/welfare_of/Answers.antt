use Rattle.std.proofs.Common.{◌≡◌, ◌+◌, ◌*◌, ◌≤◌, ℕ, length, take, get_or, ap, arith}
use Rattle.std.specs.List.{sum_by}
use Rattle.std.proofs.lemmas.List.Sums.{sum_by-le, sum_by_more_le}
use Rattle.mari_market.specs.declared.clearing.Clearing.{Clearing}
use Rattle.mari_islands.proofs.join.welfare_of.Goals as goal

pub overflow_add-total : goal.overflow_add-total
overflow_add-total c =
    let clearings = c.args.clearings.now in
    let w : Clearing → ℕ = λ c. c.welfare in
    let item = c.clearing-item.result in
    let more : sum_by w (take c.loop-clearing.clearing-index clearings) + w (get_or clearings c.loop-clearing.clearing-index item) ≤ sum_by w clearings =
    sum_by_more_le w clearings c.loop-clearing.clearing-index item c.loop-clearing-test.true in
    let whole : sum_by w clearings ≤ length clearings * (9999900 * 99999 * 4608) = sum_by-le w (9999900 * 99999 * 4608) clearings c.requires.small in
    let here : item.welfare ≡ w (get_or clearings c.loop-clearing.clearing-index item) = ap w c.clearing-item.is in
    omega (arith, more, whole, here, c.loop-clearing.invariant, c.requires.few)
