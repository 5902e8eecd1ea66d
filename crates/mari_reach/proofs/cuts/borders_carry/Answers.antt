use Rattle.std.proofs.Common.{arith}
use Rattle.std.proofs.lemmas.Int.{ints}
use Rattle.mari_market.proofs.Sums.{sum_step}
use Rattle.mari_reach.specs.Tables.{flow_in}
use Rattle.mari_reach.specs.Values.{carried_by}
use Rattle.mari_reach.proofs.cuts.borders_carry.Goals as goal

pub loop-border-preserved : goal.loop-border-preserved
loop-border-preserved c = record {
  sum = sum_step (carried_by c.args.side (flow_in c.args.state.now) c.args.set.now.zones.now) c.args.borders.now c.loop-border.border-index _ _ _ _ c.loop-border-test.true
      c.loop-border.invariant.sum c.border_carries-total.ensures.value (omega (arith, ints));
  low = omega (arith, ints);
  high = omega (arith, ints);
}
