use Rattle.std.proofs.Common.{arith}
use Rattle.std.proofs.lemmas.Int.{ints}
use Rattle.mari_market.proofs.Surplus.{welfare_at_least_0}
use Rattle.mari_market.proofs.Sizes.{welfare_at_most, as_many}
use Rattle.mari_merit.proofs.plain.welfare_at_least_0.Goals as goal

pub welfare-requires-clause-lengths : goal.welfare-requires-clause-lengths
welfare-requires-clause-lengths c = as_many c.args.market.now c.args.activation.now c.requires.admissible.feasible

pub overflow_cast-result : goal.overflow_cast-result
overflow_cast-result c =
    let low = welfare_at_least_0 c.args.market.now c.args.activation.now c.requires.valid c.requires.admissible in
    let high = welfare_at_most c.args.market.now c.args.activation.now c.requires.valid c.requires.admissible.feasible in
    let same = c.welfare.ensures in
    (omega (arith, ints, low, high, same), omega (arith, ints, low, high, same))

pub returns : goal.returns
returns c =
    let low = welfare_at_least_0 c.args.market.now c.args.activation.now c.requires.valid c.requires.admissible in
    let high = welfare_at_most c.args.market.now c.args.activation.now c.requires.valid c.requires.admissible.feasible in
    omega (arith, ints, low, high, c.welfare.ensures)
