use Rattle.std.proofs.Common.{◌≡◌, ◌<◌, ◌≤◌, ◌-◌, ℤ, pos, ◌+ℤ◌, List, length, get_or, arith, ap, sym, ◌∙◌, rules, to_z, of_z, to_z-of_z, FitsSigned, w64}
use Rattle.std.proofs.lemmas.Int.{ints}
use Rattle.mari_paths.specs.declared.curves.CurveStep.{CurveStep}
use Rattle.mari_paths.specs.Starts.{IsNear}
use Rattle.mari_market.proofs.Rising.{last_some}
use Rattle.mari_paths.proofs.Supplies.{no_step, supply_first}
use Rattle.mari_paths.proofs.curves.supply_at.Goals as goal

pub returns-in-0-clause-supply : goal.returns-in-0-clause-supply
returns-in-0-clause-supply c =
    let fits : FitsSigned w64 c.args.price = search rules in
    let is : to_z w64 (of_z w64 c.args.curve.now.least) ≡ c.args.curve.now.least +ℤ pos 0 = omega (arith, ints, c.requires.least.low, c.requires.least.high) in
    is ∙ supply_first 0 c.args.price _ c.args.curve.now.least c.as_slice-steps.result.now c.args.curve.now.steps.items c.as_slice-steps.ensures.value (to_z-of_z fits) (omega arith)
    (λ k d l. absurd (omega (arith, l))) (λ k d l m. c.steps_below.ensures.rest k d (omega (arith, c.in-0.is)) m)

pub returns-in_default-clause-supply : goal.returns-in_default-clause-supply
returns-in_default-clause-supply c =
    let fits : FitsSigned w64 c.args.price = search rules in
    let some : 1 ≤ c.steps_below.result = omega (arith, c.in_default) in
    let last : (get_or c.as_slice-steps.result.now (c.steps_below.result - 1) no_step).more ≡ (get_or c.args.curve.now.steps.items (c.steps_below.result - 1) no_step).more =
    ap (λ (ss : List CurveStep). (get_or ss (c.steps_below.result - 1) no_step).more) c.as_slice-steps.ensures.value in
    let there : c.steps_below.result - 1 < length c.args.curve.now.steps.items =
    omega (arith, some, c.steps_below.ensures.few, ap (λ (ss : List CurveStep). length ss) c.as_slice-steps.ensures.value) in
    let small : IsNear 1000000000 (get_or c.args.curve.now.steps.items (c.steps_below.result - 1) no_step).more = c.requires.steps (c.steps_below.result - 1) no_step there in
    let is : to_z w64 (of_z w64 (to_z w64 (of_z w64 c.args.curve.now.least) +ℤ to_z w64 (of_z w64 (get_or c.as_slice-steps.result.now (c.steps_below.result - 1) no_step).more)))
    ≡ c.args.curve.now.least +ℤ (get_or c.as_slice-steps.result.now (c.steps_below.result - 1) no_step).more =
    omega (arith, ints, c.requires.least.low, c.requires.least.high, small.low, small.high, last) in
    is ∙ ap (λ (x : ℤ). c.args.curve.now.least +ℤ x) (sym (last_some (λ (s : CurveStep). s.more) c.steps_below.result (pos 0) c.as_slice-steps.result.now no_step some))
    ∙ supply_first c.steps_below.result c.args.price _ c.args.curve.now.least c.as_slice-steps.result.now c.args.curve.now.steps.items c.as_slice-steps.ensures.value
    (to_z-of_z fits) c.steps_below.ensures.few
    c.steps_below.ensures.below c.steps_below.ensures.rest

pub returns-in_default-clause-near : goal.returns-in_default-clause-near
returns-in_default-clause-near c =
    let some : 1 ≤ c.steps_below.result = omega (arith, c.in_default) in
    let last : (get_or c.as_slice-steps.result.now (c.steps_below.result - 1) no_step).more ≡ (get_or c.args.curve.now.steps.items (c.steps_below.result - 1) no_step).more =
    ap (λ (ss : List CurveStep). (get_or ss (c.steps_below.result - 1) no_step).more) c.as_slice-steps.ensures.value in
    let there : c.steps_below.result - 1 < length c.args.curve.now.steps.items =
    omega (arith, some, c.steps_below.ensures.few, ap (λ (ss : List CurveStep). length ss) c.as_slice-steps.ensures.value) in
    let small : IsNear 1000000000 (get_or c.args.curve.now.steps.items (c.steps_below.result - 1) no_step).more = c.requires.steps (c.steps_below.result - 1) no_step there in
    record {
      low = omega (arith, ints, c.requires.least.low, c.requires.least.high, small.low, small.high, last);
      high = omega (arith, ints, c.requires.least.low, c.requires.least.high, small.low, small.high, last);
    }
