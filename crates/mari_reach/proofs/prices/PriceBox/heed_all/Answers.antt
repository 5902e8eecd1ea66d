use Rattle.std.proofs.Common.{arith, neg_ℤ}
use Rattle.std.proofs.lemmas.Int.{ints, clamps}
use Rattle.std.specs.Int.{int_max, int_min}
use Rattle.mari_units.specs.declared.numbers.TheConstants.{CAP}
use Rattle.mari_reach.specs.State.{ceiling_said, floor_said}
use Rattle.mari_reach.proofs.Ranges.{fold_step}
use Rattle.mari_reach.proofs.prices.PriceBox.heed_all.Goals as goal

pub loop-decision-preserved : goal.loop-decision-preserved
loop-decision-preserved c = record {
  low = λ z l. fold_step int_max (floor_said z) (neg_ℤ CAP) c.args.decisions.now c.loop-decision.decision-index _ _ _ c.loop-decision-test.true (c.loop-decision.invariant.low z l)
      (c.heed.ensures.low z);
  high = λ z l. fold_step int_min (ceiling_said z) CAP c.args.decisions.now c.loop-decision.decision-index _ _ _ c.loop-decision-test.true (c.loop-decision.invariant.high z l) (c.heed.ensures.high z);
  low_kept = λ z. omega (arith, ints, clamps, c.heed.ensures.low z, c.loop-decision.invariant.low_kept z);
  high_kept = λ z. omega (arith, ints, clamps, c.heed.ensures.high z, c.loop-decision.invariant.high_kept z);
}
