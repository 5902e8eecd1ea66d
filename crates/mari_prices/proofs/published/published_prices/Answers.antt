use Rattle.std.proofs.Common.{◌∙◌, length, ap}
use Rattle.mari_market.proofs.Published.{published_consistent}
use Rattle.mari_prices.proofs.IntervalLaws.{in_order, published}
use Rattle.mari_prices.proofs.published.published_prices.Goals as goal

pub nearest_prices-requires : goal.nearest_prices-requires
nearest_prices-requires c = record {
  intervals = rw (c.as_slice.ensures, c.as_slice-2.ensures) (in_order c.args.market.now c.args.activation.now _ _ c.in_ok-intervals.ensures.least c.in_ok-intervals.ensures.greatest);
}

pub returns-clause-published : goal.returns-clause-published
returns-clause-published c =
    rw c.of.ensures (published c.args.market.now c.args.activation.now _ _ _ c.in_ok-intervals.ensures.least c.in_ok-intervals.ensures.greatest
    (c.in_ok-published.ensures.one_each ∙ ap length c.as_slice.ensures)
    (rw (c.as_slice.ensures, c.as_slice-2.ensures) at c.in_ok-published.ensures.nearest))

pub returns-clause-consistent : goal.returns-clause-consistent
returns-clause-consistent c = published_consistent c.args.market.now c.args.activation.now _ c.requires.valid (returns-clause-published c)
