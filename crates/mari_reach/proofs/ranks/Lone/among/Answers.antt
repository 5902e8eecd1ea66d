use Rattle.mari_reach.proofs.LoneTables.{seen_step, sole_step}
use Rattle.mari_reach.proofs.ranks.Lone.among.Goals as goal

pub loop-order-preserved : goal.loop-order-preserved
loop-order-preserved c = record {
  orders = λ g. sole_step g c.args.orders.now c.loop-order.order-index _ _ _ _ c.loop-order-test.true (c.loop-order.invariant.seen g) (c.loop-order.invariant.orders g) (c.add.ensures.orders g);
  seen = λ g. seen_step g c.args.orders.now c.loop-order.order-index _ _ _ c.loop-order-test.true (c.loop-order.invariant.seen g) (c.add.ensures.seen g);
}
