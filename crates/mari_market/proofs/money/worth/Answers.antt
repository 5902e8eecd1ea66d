use Rattle.std.proofs.Common.{rules}
use Rattle.mari_market.proofs.Wide.{wide_bits, worth_bits}
use Rattle.mari_market.proofs.money.worth.Goals as goal

pub overflow_mul-result : goal.overflow_mul-result
overflow_mul-result c = wide_bits c.args.price.0 c.args.mw c.from.result c.from-2.result (search rules) c.ranges.mw c.from.ensures c.from-2.ensures

pub returns-clause-small : goal.returns-clause-small
returns-clause-small c = worth_bits c.args.price.0 c.args.mw c.from.result c.from-2.result (search rules) c.ranges.mw c.from.ensures c.from-2.ensures
