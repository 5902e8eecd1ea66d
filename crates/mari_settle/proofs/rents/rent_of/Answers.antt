use Rattle.std.proofs.Common.{arith}
use Rattle.std.proofs.lemmas.Int.{ints}
use Rattle.mari_settle.proofs.Money.{product_fits}
use Rattle.mari_settle.proofs.rents.rent_of.Goals as goal

pub returns-clause-small : goal.returns-clause-small
returns-clause-small c =
    omega
    (arith, ints, product_fits c.gap_of.result c.args.flow c.worth.result 19999800 199998 c.gap_of.ensures.small (omega (arith, ints)) (omega arith) (omega arith) c.worth.ensures.value)
