use Rattle.std.proofs.Common.{arith, ◌≡◌, ◌<◌, pos, length, get_or, to_z-of_z, w64, rules}
use Rattle.std.specs.Prelude.{FitsSigned}
use Rattle.std.proofs.lemmas.Int.{ints}
use Rattle.mari_market.proofs.Sums.{sum_along_step}
use Rattle.mari_settle.specs.Ledger.{carried_in}
use Rattle.mari_settle.proofs.Flows.{no_border, flow_within}
use Rattle.mari_settle.proofs.operators.net_import.Goals as goal

pub carried_in-total-requires-clause-flow : goal.carried_in-total-requires-clause-flow
carried_in-total-requires-clause-flow c =
    flow_within c.args.market.now.borders _ c.args.activation.now.flow _ c.loop-i.i c.as_slice-border-items.ensures c.as_slice-flow.ensures
    c.loop-i-test.true c.requires.flows.within (search rules)

pub loop-i-preserved : goal.loop-i-preserved
loop-i-preserved c =
    let bs : c.as_slice-border-items.result.now ≡ c.args.market.now.borders = c.as_slice-border-items.ensures in
    let fs : c.as_slice-flow.result.now ≡ c.args.activation.now.flow = c.as_slice-flow.ensures in
    let here : c.loop-i.i < length c.args.market.now.borders = rw bs at c.loop-i-test.true in
    let fits : FitsSigned w64 (get_or c.as_slice-flow.result.now c.loop-i.i (pos 0)) = search rules in
    record {
      sum =
          sum_along_step (carried_in c.args.zone) c.args.market.now.borders c.args.activation.now.flow c.loop-i.i no_border (pos 0) _ _ _ here
          (omega (arith, c.requires.flows.one_each)) c.loop-i.invariant.sum
          (rw (to_z-of_z fits, bs, fs) at c.carried_in-total.ensures.value) (omega (arith, ints));
      small = omega (arith, ints);
    }
