use Rattle.std.proofs.Common.{arith, refl, to_z-of_z}
use Rattle.std.specs.Int.{w128}
use Rattle.std.specs.Prelude.{FitsSigned}
use Rattle.std.proofs.lemmas.Int.{ints, fits_signed_from_abs}
use Rattle.mari_settle.specs.Conditions.{IsSmallLine}
use Rattle.mari_settle.specs.Ledger.{operator_line}
use Rattle.mari_settle.proofs.Lists.{written_more, small_more}
use Rattle.mari_settle.proofs.operators.write_lines.Goals as goal

pub loop-operator-preserved : goal.loop-operator-preserved
loop-operator-preserved c =
    let payment_fits : FitsSigned w128 c.operator_payment.result = fits_signed_from_abs w128 c.operator_payment.result (omega arith) in
    let rent_fits : FitsSigned w128 c.operator_rent.result = fits_signed_from_abs w128 c.operator_rent.result (omega arith) in
    let line = operator_line c.args.zones.now c.args.market.now c.args.activation.now c.args.prices.now in
    record {
      written =
          rw (to_z-of_z payment_fits, to_z-of_z rent_fits, c.operator_payment.ensures.value, c.operator_rent.ensures.value)
          (written_more line c.loop-operator.lines c.loop-operator.operator _ (omega arith) c.loop-operator.invariant.written refl);
      small =
          small_more IsSmallLine c.loop-operator.lines c.loop-operator.operator _ (omega arith) c.loop-operator.invariant.small (record { payment = omega (arith, ints); rent = omega (arith, ints) });
    }
