use Rattle.std.proofs.Common.{arith, refl}
use Rattle.std.proofs.lemmas.Int.{ints}
use Rattle.mari_market.proofs.Sums.{sum_step}
use Rattle.mari_reach.specs.Leaf.{best_of_gate}
use Rattle.mari_reach.specs.Tables.{span_in}
use Rattle.mari_reach.proofs.gains.Gains.of_orders.Goals as goal

pub loop-order-preserved : goal.loop-order-preserved
loop-order-preserved c = record {
  sums = λ g. sum_step (best_of_gate g (span_in c.args.state.now) c.args.potentials.now) c.args.orders.now c.loop-order.order-index _ _ _ _ c.loop-order-test.true
      (c.loop-order.invariant.sums g) refl (c.add_order.ensures.added g);
  low = λ g. omega (arith, ints, c.loop-order.invariant.low g, c.add_order.ensures.low g);
  high = λ g. omega (arith, ints, c.loop-order.invariant.high g, c.add_order.ensures.high g);
}
