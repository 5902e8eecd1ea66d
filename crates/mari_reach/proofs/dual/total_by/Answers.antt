use Rattle.std.proofs.Common.{◌≡◌, ◌∙◌, ◌+ℤ◌, ◌≤◌, List, arith, ap, refl, length, subst, sym}
use Rattle.std.proofs.lemmas.List.Elements.{All-filter}
use Rattle.std.specs.List.{All, filter}
use Rattle.mari_market.specs.declared.market.Order.{Order}
use Rattle.mari_market.specs.declared.limits.TheConstants.{MOST_ORDERS}
use Rattle.mari_market.specs.Dual.{best_flow, best_order}
use Rattle.mari_market.specs.Market.{IsValidOrder}
use Rattle.mari_market.specs.Sums.{int_sum}
use Rattle.mari_reach.specs.Tables.{flow_in, has_gate, is_plain, span_in}
use Rattle.mari_reach.proofs.ByLevel.{few_kept, split_sum, sum_of_three, valid_wide}
use Rattle.mari_reach.proofs.dual.total_by.Goals as goal

pub orders_value-requires-clause-few : goal.orders_value-requires-clause-few
orders_value-requires-clause-few c =
    subst (λ (xs : List Order). length xs ≤ MOST_ORDERS) (sym c.requires.gated) (omega (arith, few_kept has_gate c.args.market.now.orders, c.requires.market.few_orders))

pub orders_value-requires-clause-orders : goal.orders_value-requires-clause-orders
orders_value-requires-clause-orders c =
    let m = c.args.market.now in
    subst (λ (xs : List Order). All (IsValidOrder (length c.args.potentials.now) 512) xs) (sym c.requires.gated)
    (All-filter has_gate (IsValidOrder (length c.args.potentials.now) 512) m.orders (valid_wide m (length c.args.potentials.now) c.requires.one_each c.requires.market))

pub returns : goal.returns
returns c =
    let m = c.args.market.now in
    let f = best_order (span_in c.args.state.now) c.args.potentials.now in
    let p = c.gain.result in
    let g = c.orders_value.result in
    let b = c.borders_value.result in
    let plain : p ≡ int_sum f (filter is_plain m.orders) = c.gain.ensures.value c.args.state.now c.of-levels.ensures in
    let sum : p +ℤ g ≡ int_sum f m.orders = split_sum f m.orders (filter is_plain m.orders) c.args.gated.now p g refl c.requires.gated plain c.orders_value.ensures.value in
    let borders : b ≡ int_sum (best_flow (flow_in c.args.state.now) c.args.potentials.now) m.borders = c.borders_value.ensures.value
    ∙ ap (int_sum (best_flow (flow_in c.args.state.now) c.args.potentials.now)) c.as_slice.ensures in
    sum_of_three p g b (int_sum f m.orders) (int_sum (best_flow (flow_in c.args.state.now) c.args.potentials.now) m.borders) c.gain.ensures.low c.gain.ensures.high
    c.orders_value.ensures.low c.orders_value.ensures.high c.borders_value.ensures.low c.borders_value.ensures.high sum borders
