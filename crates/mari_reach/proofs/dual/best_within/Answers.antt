use Rattle.std.proofs.Common.{◌∙◌, arith, rules, to_z-of_z, w64}
use Rattle.std.proofs.lemmas.Int.{ints}
use Rattle.std.specs.Prelude.{FitsSigned}
use Rattle.mari_reach.proofs.Plain.{greatest_best, least_best}
use Rattle.mari_reach.proofs.dual.best_within.Goals as goal

pub returns-then-gap-gt0-clause-value : goal.returns-then-gap-gt0-clause-value
returns-then-gap-gt0-clause-value c =
    let gap_fits : FitsSigned w64 c.args.gap = search rules in
    let fits : FitsSigned w64 c.amount.result = search rules in
    to_z-of_z fits ∙ rw (to_z-of_z gap_fits) at c.amount.ensures.value
    ∙ greatest_best c.args.gap c.args.span.0 c.args.span.1 c.requires.in_order (omega (arith, ints))

pub returns-else-gap-gt0-clause-value : goal.returns-else-gap-gt0-clause-value
returns-else-gap-gt0-clause-value c =
    let gap_fits : FitsSigned w64 c.args.gap = search rules in
    let fits : FitsSigned w64 c.amount-else-gap-gt0.result = search rules in
    to_z-of_z fits ∙ rw (to_z-of_z gap_fits) at c.amount-else-gap-gt0.ensures.value
    ∙ least_best c.args.gap c.args.span.0 c.args.span.1 c.requires.in_order (omega (arith, ints))
