use Rattle.std.proofs.Common.{arith, ◌≡◌, ◌<◌, ℤ, pos, length, get_or, to_z-of_z, w64, rules}
use Rattle.std.specs.Prelude.{FitsSigned}
use Rattle.std.proofs.lemmas.Int.{ints}
use Rattle.mari_market.specs.declared.market.Border.{Border}
use Rattle.mari_market.proofs.Sums.{sum_along_step}
use Rattle.mari_settle.specs.Ledger.{operator_at, rent_of, share_of}
use Rattle.mari_settle.proofs.Flows.{no_border, flow_within}
use Rattle.mari_settle.proofs.operators.operator_rent.Goals as goal

pub share_of_border-total-requires-clause-flow : goal.share_of_border-total-requires-clause-flow
share_of_border-total-requires-clause-flow c =
    flow_within c.args.market.now.borders _ c.args.activation.now.flow _ c.loop-i.i c.as_slice-border-items.ensures c.as_slice-flow.ensures
    c.loop-i-test.true c.requires.flows.within (search rules)

pub loop-i-preserved : goal.loop-i-preserved
loop-i-preserved c =
    let bs : c.as_slice-border-items.result.now ≡ c.args.market.now.borders = c.as_slice-border-items.ensures in
    let fs : c.as_slice-flow.result.now ≡ c.args.activation.now.flow = c.as_slice-flow.ensures in
    let here : c.loop-i.i < length c.args.market.now.borders = rw bs at c.loop-i-test.true in
    let fits : FitsSigned w64 (get_or c.as_slice-flow.result.now c.loop-i.i (pos 0)) = search rules in
    let share = λ (b : Border) (f : ℤ). share_of (operator_at c.args.zones.now b.from) (operator_at c.args.zones.now b.to) c.args.operator (rent_of c.args.prices.now b f) in
    record {
      sum = sum_along_step share c.args.market.now.borders c.args.activation.now.flow c.loop-i.i no_border (pos 0) _ _ _ here (omega (arith, c.requires.flows.one_each)) c.loop-i.invariant.sum
          (rw (to_z-of_z fits, bs, fs) at c.share_of_border-total.ensures.value) (omega (arith, ints));
      small = omega (arith, ints);
    }
