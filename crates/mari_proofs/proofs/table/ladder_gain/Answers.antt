use Rattle.std.proofs.Common.{◌≤◌, ◌-◌, ℤ, pos, get_or, arith, ap, sym, ◌∙◌, rules, to_z-of_z, FitsSigned, w64}
use Rattle.mari_proofs.specs.Tables.{gain_of, no_rung}
use Rattle.mari_market.proofs.Rising.{last_some}
use Rattle.mari_proofs.proofs.Ladders.{gain_first}
use Rattle.mari_proofs.proofs.table.ladder_gain.Goals as goal

pub returns-in-0-clause-value : goal.returns-in-0-clause-value
returns-in-0-clause-value c =
    let level : FitsSigned w64 c.args.level = search rules in
    gain_first 0 c.args.level _ c.args.ladder.now (to_z-of_z level) (omega arith) (λ k d l. absurd (omega (arith, l))) (λ k d l m. c.rungs_below.ensures.rest k d (omega (arith, c.in-0.is)) m)

pub returns-in_default-clause-value : goal.returns-in_default-clause-value
returns-in_default-clause-value c =
    let level : FitsSigned w64 c.args.level = search rules in
    let fits : FitsSigned w64 c.gain_of.result = search rules in
    let some : 1 ≤ c.rungs_below.result = omega (arith, c.in_default) in
    to_z-of_z fits ∙ c.gain_of.ensures.value
    ∙ ap (λ (x : ℤ). gain_of x (get_or c.args.ladder.now (c.rungs_below.result - 1) no_rung)) (to_z-of_z level)
    ∙ sym (last_some (gain_of c.args.level) c.rungs_below.result (pos 0) c.args.ladder.now no_rung some)
    ∙ gain_first c.rungs_below.result c.args.level _ c.args.ladder.now (to_z-of_z level) c.rungs_below.ensures.few c.rungs_below.ensures.below c.rungs_below.ensures.rest
