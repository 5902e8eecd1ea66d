use Rattle.std.proofs.Common.{arith}
use Rattle.mari_units.specs.declared.limits.TheConstants.{MOST_FLOW}
use Rattle.mari_market.specs.declared.limits.TheConstants.{MOST_GAP, MOST_WORTH}
use Rattle.mari_proofs.proofs.Products.{product, IsProduct}
use Rattle.mari_reach.proofs.worth.amount.Goals as goal
use Rattle.mari_reach.proofs.worth.amount.Goals.{After-from}

-- the product that is answered
whole : (c : After-from) → IsProduct MOST_WORTH c.args.gap c.args.mw c.from.result
whole c =
    product MOST_WORTH MOST_GAP MOST_FLOW c.args.gap c.args.mw c.from.result (omega arith) (omega arith) (omega arith) (omega arith)
    c.requires.low c.requires.high c.requires.mw c.from.ensures

pub overflow_mul-result : goal.overflow_mul-result
overflow_mul-result c = (whole c).fits

pub returns-clause-value : goal.returns-clause-value
returns-clause-value c = (whole c).value

pub returns-clause-low : goal.returns-clause-low
returns-clause-low c = (whole c).low

pub returns-clause-high : goal.returns-clause-high
returns-clause-high c = (whole c).high
