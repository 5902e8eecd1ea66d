use Rattle.std.proofs.Common.{get_or}
use Rattle.std.proofs.lemmas.List.Elements.{All-more}
use Rattle.mari_node.specs.Paid.{IsPaidAt}
use Rattle.mari_node.proofs.Gated.{tested_all}
use Rattle.mari_node.proofs.Paid.{paid_read}
use Rattle.mari_node.proofs.prices.none_loses.Goals as goal

pub loop-place-preserved : goal.loop-place-preserved
loop-place-preserved c =
    let m = c.args.market.now in
    let o = c.args.optimum.now in
    let i = c.loop-place.place-index in
    let there = c.requires.gated.there i 0 c.loop-place-test.true in
    All-more (IsPaidAt m o) c.args.gated.now i 0 c.loop-place-test.true c.loop-place.invariant
    (paid_read m o (get_or c.args.gated.now i 0) c.as_slice-orders.result.now c.as_slice-amounts.result.now c.as_slice-potentials.result.now c.requires.fits there c.as_slice-orders.ensures
    c.as_slice-amounts.ensures.value c.as_slice-potentials.ensures (c.is_paid.ensures.0 c.if-not-is_paid.false))

pub returns : goal.returns
returns c = tested_all (IsPaidAt c.args.market.now c.args.optimum.now) c.args.gated.now c.loop-place.place-index c.loop-place-test.false c.loop-place.invariant
