use Rattle.std.proofs.Common.{◌∙◌, rules, to_z-of_z, w64}
use Rattle.std.specs.Prelude.{FitsSigned}
use Rattle.mari_reach.proofs.ByLevel.{best_by_levels}
use Rattle.mari_reach.proofs.levels.plain_value.Goals as goal

pub returns-clause-value : goal.returns-clause-value
returns-clause-value c = λ r h.
    let gap_fits : FitsSigned w64 c.gap.result = search rules in
    let fits : FitsSigned w64 c.amount.result = search rules in
    to_z-of_z fits ∙ best_by_levels r c.args.potentials.now c.args.levels.now c.args.order.now c.potential_at-potential.result.0 c.amount.result c.gap.result c.quantity-mw.result
    h c.requires.order.zone c.requires.plain
    c.potential_at-potential.ensures.value c.gap.ensures.gap c.quantity-mw.ensures.value (rw (to_z-of_z gap_fits) at c.amount.ensures.value)
