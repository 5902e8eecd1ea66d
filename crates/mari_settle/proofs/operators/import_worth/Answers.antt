use Rattle.std.proofs.Common.{arith}
use Rattle.std.proofs.lemmas.Int.{ints}
use Rattle.mari_settle.proofs.Money.{product_fits}
use Rattle.mari_settle.proofs.operators.import_worth.Goals as goal

pub returns-clause-small : goal.returns-clause-small
returns-clause-small c =
    omega
    (arith, ints, product_fits c.price_of.result c.net_import.result c.worth.result 9999900 102400000 c.price_of.ensures.small (omega (arith, ints)) (omega arith) (omega arith) c.worth.ensures.value)
