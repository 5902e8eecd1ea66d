use Rattle.std.proofs.Common.{◌≤◌, arith, ap, length}
use Rattle.std.proofs.lemmas.List.Sorted.{sum_by-IsPermutation}
use Rattle.std.proofs.lemmas.List.{length-map}
use Rattle.mari_market.specs.Price.{IsPrice}
use Rattle.mari_merit.specs.declared.marginal.Rung.{Rung}
use Rattle.mari_merit.specs.Merit.{rung_of}
use Rattle.mari_merit.proofs.Rungs.{enough, reordered, room}
use Rattle.mari_merit.proofs.Sorted.{all_rungs, as_many}
use Rattle.mari_merit.proofs.marginal.marginal_price.Goals as goal

pub marginal_rung-requires-clause-enough : goal.marginal_rung-requires-clause-enough
marginal_rung-requires-clause-enough c =
    omega (arith, c.requires.need, enough c.args.orders.now, sum_by-IsPermutation (λ (r : Rung). r.room) _ _ c.in_ok-rungs.ensures.same, ap room c.deref.ensures.value)

pub marginal_rung-requires-clause-few : goal.marginal_rung-requires-clause-few
marginal_rung-requires-clause-few c = omega (arith, c.requires.few, as_many c.args.orders.now _ c.in_ok-rungs.ensures.same, ap length c.deref.ensures.value, length-map c.args.orders.now rung_of)

pub marginal_rung-requires-clause-small : goal.marginal_rung-requires-clause-small
marginal_rung-requires-clause-small c = rw c.deref.ensures.value (all_rungs (λ (r : Rung). r.room ≤ 99999) c.args.orders.now _ c.in_ok-rungs.ensures.same c.requires.small)

pub marginal_rung-requires-clause-prices : goal.marginal_rung-requires-clause-prices
marginal_rung-requires-clause-prices c = rw c.deref.ensures.value (all_rungs (λ (r : Rung). IsPrice r.price) c.args.orders.now _ c.in_ok-rungs.ensures.same c.requires.prices)

pub returns : goal.returns
returns c = reordered _ _ c.args.need _ c.in_ok-rungs.ensures.same (rw c.deref.ensures.value at c.marginal_rung.ensures)
