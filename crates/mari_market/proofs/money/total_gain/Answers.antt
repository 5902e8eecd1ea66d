use Rattle.std.proofs.Common.{arith}
use Rattle.std.proofs.lemmas.Int.{ints}
use Rattle.mari_market.specs.Activation.{order_gain}
use Rattle.mari_market.proofs.Sums.{sum_along_step}
use Rattle.mari_market.proofs.money.total_gain.Goals as goal

pub loop-i-preserved : goal.loop-i-preserved
loop-i-preserved c = record {
  sum = sum_along_step order_gain c.args.orders.now c.args.mw.now c.loop-i.i _ 0 _ _ _ c.loop-i-test.true (omega arith) c.loop-i.invariant.sum c.gain-total.ensures.value (omega (arith, ints));
  small = omega (arith, ints);
}
