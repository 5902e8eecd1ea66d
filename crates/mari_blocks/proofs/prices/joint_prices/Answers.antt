use Rattle.std.proofs.Common.{◌≡◌, ◌∙◌, ◌+◌, ◌-◌, ◌*◌, ◌<◌, length, sym, ap, arith, subst}
use Rattle.std.specs.List.{All}
use Rattle.mari_market.specs.declared.market.Border.{Border}
use Rattle.mari_prices.proofs.IntervalLaws.{in_order}
use Rattle.mari_blocks.specs.Prices.{own_reference}
use Rattle.mari_blocks.specs.declared.joint.Joint.{Joint}
use Rattle.mari_blocks.proofs.JointPrices.{has-quarter, is-made, same-references}
use Rattle.mari_blocks.proofs.OwnPrices.{own-consistent, own-prices}
use Rattle.mari_blocks.proofs.prices.joint_prices.Goals as goal

pub own_prices-requires-clause-intervals : goal.own_prices-requires-clause-intervals
own_prices-requires-clause-intervals c =
    rw (c.as_slice.ensures, c.as_slice-2.ensures) (in_order c.args.joint.now.market c.args.activation.now _ _ c.in_ok-intervals.ensures.least c.in_ok-intervals.ensures.greatest)

pub own_prices-requires-clause-last : goal.own_prices-requires-clause-last
own_prices-requires-clause-last c = λ zone l.
    let books = c.args.books.now in
    let last = c.requires.joint.1 in
    let made = is-made books c.requires.joint.0 c.args.first last c.args.joint.now c.requires.joint.3 in
    let count = ap (λ (joint : Joint). joint.market.zones) made.same in
    let within : zone < (last + 1 - c.args.first) * length books.zones.zones = omega (arith, l, ap length c.as_slice.ensures, c.in_ok-intervals.ensures.least.one_each, count) in
    let has = has-quarter books c.requires.accepted c.args.first last made.runs zone within in
    omega (arith, has.to_last, c.requires.joint.2)

pub own_prices-requires-clause-there : goal.own_prices-requires-clause-there
own_prices-requires-clause-there c = λ zone l.
    let books = c.args.books.now in
    let last = c.requires.joint.1 in
    let made = is-made books c.requires.joint.0 c.args.first last c.args.joint.now c.requires.joint.3 in
    let count = ap (λ (joint : Joint). joint.market.zones) made.same in
    let within : zone < (last + 1 - c.args.first) * length books.zones.zones = omega (arith, l, ap length c.as_slice.ensures, c.in_ok-intervals.ensures.least.one_each, count) in
    (has-quarter books c.requires.accepted c.args.first last made.runs zone within).there

pub returns-clause-published : goal.returns-clause-published
returns-clause-published c =
    rw c.of.ensures (own-prices c.args.joint.now.market c.args.activation.now (own_reference c.args.books.now c.args.first) _ _ _ c.in_ok-intervals.ensures.least c.in_ok-intervals.ensures.greatest
    (c.in_ok-published.ensures.one_each ∙ ap length c.as_slice.ensures)
    (rw (c.as_slice.ensures, c.as_slice-2.ensures) at c.in_ok-published.ensures.nearest))

pub returns-clause-consistent : goal.returns-clause-consistent
returns-clause-consistent c =
    let books = c.args.books.now in
    let first = c.args.first in
    let made = is-made books c.requires.joint.0 first c.requires.joint.1 c.args.joint.now c.requires.joint.3 in
    own-consistent c.args.joint.now.market c.args.activation.now (own_reference books first) _ c.requires.valid (returns-clause-published c)
    (subst (λ (joint : Joint). All (λ (b : Border). own_reference books first b.to ≡ own_reference books first b.from) joint.market.borders) (sym made.same)
    (same-references books c.requires.accepted first c.requires.joint.1 made.runs))
