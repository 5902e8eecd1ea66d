use Rattle.std.proofs.Common.{arith}
use Rattle.std.proofs.lemmas.Grind.{common_steps}
use Rattle.mari_market.specs.Prefix.{bounds_at}
use Rattle.mari_gates.proofs.GateTable.{gathered, bounds_in_order}
use Rattle.mari_gates.proofs.bounds.bounds_of.Goals as goal

pub returns-clause-least : goal.returns-clause-least
returns-clause-least c = gathered _ _ _ _ _ c.loop-order.order-index c.of.ensures c.loop-order.invariant.least c.as_slice-orders.ensures c.loop-order-test.false

pub returns-clause-greatest : goal.returns-clause-greatest
returns-clause-greatest c = gathered _ _ _ _ _ c.loop-order.order-index c.of-2.ensures c.loop-order.invariant.greatest c.as_slice-orders.ensures c.loop-order-test.false

pub returns-clause-in_order : goal.returns-clause-in_order
returns-clause-in_order c =
    let m = c.args.market.now in
    let x = c.args.prefix.now in
    let orders = c.as_slice-orders.result.now in
    let least = gathered (λ o. (bounds_at m x o).lo) m.orders orders _ _ c.loop-order.order-index c.of.ensures c.loop-order.invariant.least c.as_slice-orders.ensures c.loop-order-test.false in
    let greatest = gathered (λ o. (bounds_at m x o).hi) m.orders orders _ _ c.loop-order.order-index c.of-2.ensures c.loop-order.invariant.greatest c.as_slice-orders.ensures c.loop-order-test.false in
    bounds_in_order m x _ _ c.requires.market least greatest

pub loop-order-preserved : goal.loop-order-preserved
loop-order-preserved c = record {
  least = grind (arith, common_steps);
  greatest = grind (arith, common_steps);
}
