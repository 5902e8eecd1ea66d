use Rattle.std.proofs.Common.{arith}
use Rattle.std.proofs.lemmas.Int.{ints}
use Rattle.mari_market.proofs.Sums.{sum_step}
use Rattle.mari_proofs.specs.NetInjections.{put_of}
use Rattle.mari_reach.specs.Tables.{span_in}
use Rattle.mari_reach.proofs.cuts.orders_put.Goals as goal

pub loop-order-preserved : goal.loop-order-preserved
loop-order-preserved c = record {
  sum = sum_step (put_of c.args.side (span_in c.args.state.now) c.args.set.now.zones.now) c.args.orders.now c.loop-order.order-index _ _ _ _ c.loop-order-test.true
      c.loop-order.invariant.sum c.order_put-total.ensures.value (omega (arith, ints));
  low = omega (arith, ints);
  high = omega (arith, ints);
}
