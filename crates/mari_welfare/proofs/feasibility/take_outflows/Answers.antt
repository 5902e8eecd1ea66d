use Rattle.std.proofs.Common.{arith, pos, get_or, to_z-of_z, rules, refl, w64}
use Rattle.std.specs.Prelude.{FitsSigned}
use Rattle.mari_market.specs.declared.market.Border.{Border}
use Rattle.mari_market.specs.Activation.{carried_out}
use Rattle.mari_welfare.proofs.Balance.{take_away_step}
use Rattle.mari_welfare.proofs.feasibility.take_outflows.Goals as goal

pub loop-i-preserved : goal.loop-i-preserved
loop-i-preserved c =
    let none : Border = record { from = 0; to = 0; limit = 0; back = 0 } in
    let fits : FitsSigned w64 (get_or c.args.flow.now c.loop-i.i (pos 0)) = search rules in
    record {
      sum = λ z. take_away_step (carried_out z) c.args.borders.now c.args.flow.now c.loop-i.i none (pos 0) _ _ _ _ c.loop-i-test.true (omega arith) (c.loop-i.invariant.sum z)
          refl (rw (to_z-of_z fits) at (c.carry.ensures.carried z));
      small = λ z. omega (arith, c.carry.ensures.small z, c.loop-i.invariant.small z);
    }
