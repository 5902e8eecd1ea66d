use Rattle.mari_check.proofs.Intervals.{ends-by}
use Rattle.mari_check.proofs.pricing.are_ends.Goals as goal

pub returns : goal.returns
returns c =
    ends-by c.args.market.now c.args.activation.now c.args.end c.args.reported.now c.in_ok-prices.prices.items c.are_same.result
    c.in_ok-prices.ensures (rw c.deref.ensures.value at c.are_same.ensures)
