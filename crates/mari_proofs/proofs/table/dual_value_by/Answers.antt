use Rattle.std.proofs.Common.{◌∙◌, to_z-of_z, rules}
use Rattle.std.specs.Int.{w64, w128}
use Rattle.std.specs.Prelude.{FitsSigned}
use Rattle.mari_gates.specs.GateTable.{state_in}
use Rattle.mari_market.specs.Bounds.{span_in}
use Rattle.mari_market.specs.Prefix.{bounds_at}
use Rattle.mari_proofs.proofs.DualSums.{same_value}
use Rattle.mari_proofs.proofs.table.dual_value_by.Goals as goal

pub returns : goal.returns
returns c =
    let total_fits : FitsSigned w64 c.total_value-total.result = search rules in
    let fits : FitsSigned w128 c.from.result = search rules in
    record {
      value = to_z-of_z fits ∙ c.from.ensures ∙ to_z-of_z total_fits
          ∙ same_value (span_in (state_in c.states_at-states.result)) (bounds_at c.args.market.now c.args.prefix.now) c.args.market.now
          c.as_slice.result.now c.args.potentials.now.cents c.total_value-total.result c.requires.market c.total_value-total.ensures c.as_slice.ensures
          c.states_at-states.ensures.bounds;
    }
