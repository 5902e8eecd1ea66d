use Rattle.std.proofs.Common.{arith}
use Rattle.std.proofs.lemmas.Int.{ints}
use Rattle.mari_settle.proofs.Money.{product_fits}
use Rattle.mari_settle.proofs.providers.earned.Goals as goal

pub returns-then-bid-clause-small : goal.returns-then-bid-clause-small
returns-then-bid-clause-small c =
    omega (
      arith,
      ints,
      product_fits c.paid_price.result c.from.result c.worth-worth.result 9999900 99999 c.paid_price.ensures.small (omega (arith, ints)) (omega arith) (omega arith) c.worth-worth.ensures.value,
    )

pub returns-else-bid-clause-small : goal.returns-else-bid-clause-small
returns-else-bid-clause-small c =
    omega (
      arith,
      ints,
      product_fits c.paid_price.result c.from.result c.worth-worth.result 9999900 99999 c.paid_price.ensures.small (omega (arith, ints)) (omega arith) (omega arith) c.worth-worth.ensures.value,
    )
