use Rattle.std.proofs.Common.{arith}
use Rattle.std.proofs.lemmas.Int.{ints}
use Rattle.mari_settle.specs.Ledger.{payment_at}
use Rattle.mari_settle.proofs.Lists.{range_sum_step}
use Rattle.mari_settle.proofs.operators.operator_payment.Goals as goal

pub loop-zone-preserved : goal.loop-zone-preserved
loop-zone-preserved c = record {
  sum = range_sum_step (payment_at c.args.zones.now c.args.market.now c.args.activation.now c.args.prices.now c.args.operator) c.loop-zone.zone _ _ _ c.loop-zone.invariant.sum
      c.payment_for-total.ensures.value (omega (arith, ints));
  small = omega (arith, ints);
}
