use Rattle.mari_check.proofs.Intervals.{in-order, nearest-published, published-nearest}
use Rattle.mari_check.proofs.pricing.has_published_prices.Goals as goal

pub are_nearest-requires : goal.are_nearest-requires
are_nearest-requires c = rw c.as_slice.ensures (in-order c.args.market.now c.args.block.now c.requires.intervals)

pub returns : goal.returns
returns c = (
  λ t. nearest-published c.args.market.now c.args.block.now c.requires.intervals (rw c.as_slice.ensures at (c.are_nearest.ensures.0 t)),
  λ p. c.are_nearest.ensures.1 (rw c.as_slice.ensures (published-nearest c.args.market.now c.args.block.now c.requires.intervals p)),
)
