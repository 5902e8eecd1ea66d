use Rattle.std.proofs.Common.{◌≡◌, List, ap, get_or, subst}
use Rattle.std.proofs.lemmas.List.Elements.{All-more}
use Rattle.mari_market.specs.declared.market.Order.{Order}
use Rattle.mari_market.specs.Prefix.{opens_in}
use Rattle.mari_network.specs.Orders.{no_order}
use Rattle.mari_paths.specs.Starts.{order_at}
use Rattle.mari_node.specs.Running.{quantity_at, RunsWhereOpen}
use Rattle.mari_node.proofs.Gated.{quantity_small, tested_all}
use Rattle.mari_node.proofs.gates.run_together.Goals as goal

pub quantity-requires-clause-small : goal.quantity-requires-clause-small
quantity-requires-clause-small c =
    quantity_small c.args.market.now c.args.optimum.now (get_or c.args.gated.now c.loop-place.place-index 0) c.requires.fits (c.requires.gated.there c.loop-place.place-index 0 c.loop-place-test.true)

pub loop-place-preserved : goal.loop-place-preserved
loop-place-preserved c =
    let m = c.args.market.now in
    let o = c.args.optimum.now in
    let opens = opens_in c.args.runs.now in
    let p = get_or c.args.gated.now c.loop-place.place-index 0 in
    let here : get_or c.as_slice-orders.result.now p no_order ≡ order_at m p = ap (λ (os : List Order). get_or os p no_order) c.as_slice-orders.ensures in
    let runs : RunsWhereOpen opens (get_or c.as_slice-orders.result.now p no_order) c.quantity.result = c.runs_with_gate.ensures.0 c.if-not-runs_with_gate.false in
    All-more (λ k. RunsWhereOpen opens (order_at m k) (quantity_at o k)) c.args.gated.now c.loop-place.place-index 0 c.loop-place-test.true c.loop-place.invariant
    (subst (RunsWhereOpen opens (order_at m p)) c.quantity.ensures (subst (λ (order : Order). RunsWhereOpen opens order c.quantity.result) here runs))

pub returns : goal.returns
returns c =
    tested_all (λ k. RunsWhereOpen (opens_in c.args.runs.now) (order_at c.args.market.now k) (quantity_at c.args.optimum.now k)) c.args.gated.now c.loop-place.place-index
    c.loop-place-test.false c.loop-place.invariant
