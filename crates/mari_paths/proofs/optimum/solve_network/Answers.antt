use Rattle.std.proofs.Common.{◌≡◌, ◌<◌, ◌^◌, ℤ, length, sym, ◌∙◌, subst, arith, rules, to_z-of_z, FitsSigned}
use Rattle.std.specs.Int.{w128}
use Rattle.std.proofs.lemmas.List.{with_items_is}
use Rattle.mari_market.specs.Sums.{sum_along}
use Rattle.mari_network.specs.Slots.{slot_gain}
use Rattle.mari_network.proofs.Worths.{worth_fits}
use Rattle.mari_paths.proofs.optimum.solve_network.Goals as goal

pub answer-requires-clause-worth : goal.answer-requires-clause-worth
answer-requires-clause-worth c =
    let few : length c.args.network.now.slots.now < 2 ^ 60 = search rules in
    let worth : c.run.new.worth ≡ sum_along slot_gain c.args.network.now.slots.now c.run.new.amounts = c.run.ensures.worth in
    let fits : FitsSigned w128 c.run.new.worth =
    subst (λ (x : ℤ). FitsSigned w128 x) (sym worth) (worth_fits c.args.network.now.slots.now c.run.new.amounts c.requires.network.small c.run.ensures.runs.amounts few) in
    let amounts = with_items_is c.args.amounts c.run.new.amounts (c.run.auto.amounts ∙ c.deref_mut.ensures.len) in
    rw (to_z-of_z fits, amounts) worth

pub answer-requires-clause-runs : goal.answer-requires-clause-runs
answer-requires-clause-runs c =
    let amounts = with_items_is c.args.amounts c.run.new.amounts (c.run.auto.amounts ∙ c.deref_mut.ensures.len) in
    let flows = with_items_is c.args.flows c.run.new.flows (c.run.auto.flows ∙ c.deref_mut-2.ensures.len) in
    rw (amounts, flows) c.run.ensures.runs

pub answer-requires-clause-tight : goal.answer-requires-clause-tight
answer-requires-clause-tight c =
    let amounts = with_items_is c.args.amounts c.run.new.amounts (c.run.auto.amounts ∙ c.deref_mut.ensures.len) in
    let flows = with_items_is c.args.flows c.run.new.flows (c.run.auto.flows ∙ c.deref_mut-2.ensures.len) in
    rw (amounts, flows, c.deref-2.ensures.value) c.in_ok-prices.ensures.tight

pub answer-requires-clause-long : goal.answer-requires-clause-long
answer-requires-clause-long c =
    let amounts = with_items_is c.args.amounts c.run.new.amounts (c.run.auto.amounts ∙ c.deref_mut.ensures.len) in
    rw amounts (omega (arith, c.requires.long, c.requires.runs.amounts_long, c.run.ensures.runs.amounts_long))
