use Rattle.std.proofs.Common.{◌∙◌, sym, arith, rules, to_z-of_z, w64}
use Rattle.std.proofs.lemmas.Int.{ints}
use Rattle.std.specs.Prelude.{FitsSigned}
use Rattle.mari_reach.proofs.LeafTables.{earns_falling, earns_rising}
use Rattle.mari_reach.proofs.dual.best_flow.Goals as goal

pub returns-then-rises-clause-value : goal.returns-then-rises-clause-value
returns-then-rises-clause-value c =
    let gap_fits : FitsSigned w64 c.excess.result = search rules in
    let fits : FitsSigned w64 c.amount.result = search rules in
    to_z-of_z fits
    ∙ earns_rising c.args.state.now c.args.potentials.now c.args.border.now c.amount.result c.excess.result (sym c.rises.ensures ∙ c.if-rises.true)
    (omega (arith, ints, c.excess.ensures.value, c.potential_at-from.ensures.value, c.potential_at-to.ensures.value)) (rw (to_z-of_z gap_fits) at c.amount.ensures.value)

pub returns-then-falls-clause-value : goal.returns-then-falls-clause-value
returns-then-falls-clause-value c =
    let gap_fits : FitsSigned w64 c.excess-then-falls.result = search rules in
    let fits : FitsSigned w64 c.amount-then-falls.result = search rules in
    to_z-of_z fits
    ∙ earns_falling c.args.state.now c.args.potentials.now c.args.border.now c.amount-then-falls.result c.excess-then-falls.result (sym c.rises.ensures ∙ c.if-rises.false)
    (sym c.falls.ensures ∙ c.if-falls.true)
    (omega (arith, ints, c.excess-then-falls.ensures.value, c.potential_at-from.ensures.value, c.potential_at-to.ensures.value)) (rw (to_z-of_z gap_fits) at c.amount-then-falls.ensures.value)
