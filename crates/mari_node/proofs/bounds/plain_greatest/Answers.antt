use Rattle.std.proofs.Common.{◌<◌, ◌≤◌, length, arith, subst, sym}
use Rattle.std.proofs.lemmas.Int.{ints}
use Rattle.mari_network.specs.Network.{rung_at, no_rung}
use Rattle.mari_prices.specs.declared.bounds.End.TheVariants.{Greatest}
use Rattle.mari_node.specs.Plain.{IsPlainBound}
use Rattle.mari_node.proofs.Plain.{bound_at, no_bound, negated_read, not_below, rung_price}
use Rattle.mari_node.proofs.bounds.plain_greatest.Goals as goal

pub returns-then-sets_plainly : goal.returns-then-sets_plainly
returns-then-sets_plainly c =
    let m = c.args.market.now in
    let o = c.args.optimum.now in
    let z = c.args.zone in
    let ladder = c.args.ladder.now in
    let at = c.loop-at.at in
    let l = c.requires.ladder in
    let there : at < length ladder = c.loop-at-test.true in
    let bound = bound_at Greatest m o z ladder at c.requires.valid l there (c.sets_plainly.ensures.0 c.if-sets_plainly.true) (λ j b s.
    let high : at ≤ j = not_below j at (λ g. c.loop-at.invariant.none j g s) in
    omega (arith, ints, l.rising at j no_rung high b)) in
    subst (IsPlainBound Greatest m o z) (sym (negated_read (rung_at ladder at).price (rung_price m z ladder at c.requires.valid l there))) bound

pub returns : goal.returns
returns c = no_bound Greatest c.args.market.now c.args.optimum.now c.args.zone c.args.ladder.now c.requires.ladder (λ j b s. c.loop-at.invariant.none j (omega arith) s)
