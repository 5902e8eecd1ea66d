use Rattle.std.proofs.Common.{◌-◌, ◌<◌, length, to_z-of_z, FitsSigned, w64, ap, arith, rules}
use Rattle.std.proofs.lemmas.Int.{ints}
use Rattle.std.proofs.lemmas.List.{get_or_default}
use Rattle.mari_network.specs.declared.network.Rung.{Rung}
use Rattle.mari_network.specs.Network.{no_rung, rung_at}
use Rattle.mari_node.proofs.bounds.rungs_below.Goals as goal

pub returns-else-ladder-at-clause-below : goal.returns-else-ladder-at-clause-below
returns-else-ladder-at-clause-below c = λ j d l.
    let last = c.loop-at.at - 1 in
    let there : c.loop-at.at - 1 < length c.args.ladder.now = omega (arith, c.loop-at.invariant, c.loop-at-test.true) in
    let price : FitsSigned w64 (rung_at c.args.ladder.now last).price = search rules in
    let same = ap (λ (r : Rung). r.price) (get_or_default c.args.ladder.now last d no_rung there) in
    omega (arith, ints, to_z-of_z price, to_z-of_z c.ranges.least, same, c.requires.rising j last d (omega arith) there, c.if-ladder-at.false)
