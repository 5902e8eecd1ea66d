use Rattle.std.proofs.Common.{◌<◌, ◌-◌, length, arith, subst, sym}
use Rattle.mari_network.specs.Network.{rung_at, no_rung}
use Rattle.mari_prices.specs.declared.bounds.End.TheVariants.{Least}
use Rattle.mari_node.specs.Plain.{IsPlainBound}
use Rattle.mari_node.proofs.Plain.{bound_at, no_bound, not_above, price_read, rung_price}
use Rattle.mari_node.proofs.bounds.plain_least.Goals as goal

pub returns-then-sets_plainly : goal.returns-then-sets_plainly
returns-then-sets_plainly c =
    let m = c.args.market.now in
    let o = c.args.optimum.now in
    let z = c.args.zone in
    let ladder = c.args.ladder.now in
    let at = c.loop-at.at - 1 in
    let l = c.requires.ladder in
    let there : at < length ladder = omega (arith, c.loop-at.invariant.at) in
    let bound = bound_at Least m o z ladder at c.requires.valid l there (c.sets_plainly.ensures.0 c.if-sets_plainly.true) (λ j b s.
    let low : j < c.loop-at.at = not_above c.loop-at.at j (λ g. c.loop-at.invariant.none j g b s) in
    l.rising j at no_rung (omega arith) there) in
    subst (IsPlainBound Least m o z) (sym (price_read (rung_at ladder at).price (rung_price m z ladder at c.requires.valid l there))) bound

pub returns : goal.returns
returns c = no_bound Least c.args.market.now c.args.optimum.now c.args.zone c.args.ladder.now c.requires.ladder (λ j b s. c.loop-at.invariant.none j (omega arith) b s)
