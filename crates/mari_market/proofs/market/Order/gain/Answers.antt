use Rattle.std.proofs.Common.{arith}
use Rattle.std.proofs.lemmas.Int.{ints}
use Rattle.mari_market.proofs.Wide.{cast_worth_small}
use Rattle.mari_market.proofs.market.Order.gain.Goals as goal

pub overflow_sub-result : goal.overflow_sub-result
overflow_sub-result c = omega (arith, ints, cast_worth_small c.args.mw c.from.result c.worth-worth.result c.ranges.mw c.from.ensures c.worth-worth.ensures.small)

pub returns-in-Inject-clause-small : goal.returns-in-Inject-clause-small
returns-in-Inject-clause-small c = omega (arith, ints, cast_worth_small c.args.mw c.from.result c.worth-worth.result c.ranges.mw c.from.ensures c.worth-worth.ensures.small)

pub returns-in-Withdraw-clause-small : goal.returns-in-Withdraw-clause-small
returns-in-Withdraw-clause-small c = omega (arith, ints, cast_worth_small c.args.mw c.from.result c.worth-worth.result c.ranges.mw c.from.ensures c.worth-worth.ensures.small)
