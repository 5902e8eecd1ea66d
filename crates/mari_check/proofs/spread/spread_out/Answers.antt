use Rattle.mari_market.specs.Along.{LeadsTo}
use Rattle.mari_check.specs.Spread.Spreads.{unchanged}
use Rattle.mari_check.proofs.Spreads.{is-spread, small-spreads, spreads-on}
use Rattle.mari_check.proofs.spread.spread_out.Goals as goal

pub rounds-init : goal.rounds-init
rounds-init c = unchanged

pub round-requires-clause-small : goal.round-requires-clause-small
round-requires-clause-small c = small-spreads (LeadsTo c.args.along c.args.borders.now c.args.flow.now) c.args.values.now c.rounds.values c.requires.small c.rounds.invariant

pub rounds-preserved : goal.rounds-preserved
rounds-preserved c = spreads-on (LeadsTo c.args.along c.args.borders.now c.args.flow.now) c.args.values.now c.rounds.values c.round.new.values c.rounds.invariant c.round.ensures.spreads

pub returns : goal.returns
returns c =
    let same = c.round.ensures.settled c.rounds-test.false in
    is-spread c.args.along c.args.borders.now c.args.flow.now c.args.values.now c.round.new.values
    (spreads-on (LeadsTo c.args.along c.args.borders.now c.args.flow.now) c.args.values.now c.rounds.values c.round.new.values c.rounds.invariant c.round.ensures.spreads) same.1
