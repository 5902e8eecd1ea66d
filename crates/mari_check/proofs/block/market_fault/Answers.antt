use Rattle.std.proofs.Common.{arith, refl}
use Rattle.mari_check.proofs.block.market_fault.Goals as goal

pub pricing_fault-requires-clause-feasible : goal.pricing_fault-requires-clause-feasible
pricing_fault-requires-clause-feasible c = c.in_default.ensures.feasible refl

pub returns-in-Some : goal.returns-in-Some
returns-in-Some c = λ books run made also budget e none.
    let found = c.in-Some.ensures.finds books run made also budget e none in
    (found.0, omega (arith, found.1))

pub returns : goal.returns
returns c = λ books run made also budget e none. c.pricing_fault.ensures books run made also budget e (c.in_default.ensures.finds books run made also budget e none)
