use Rattle.std.proofs.Common.{◌≡◌, ◌+◌, ◌<◌, length, reverse}
use Rattle.mari_prices.specs.Ends.{IsTrail, depth_of}
use Rattle.mari_prices.specs.Spread.{entry_at}
use Rattle.mari_prices.proofs.ends.chain_to.Given as goal

abbrev pub invariant-loop-before : goal.invariant-loop-before
invariant-loop-before l = record {
  there : l.first < length l.settled;
  trail : IsTrail l.settled l.last l.first (reverse l.chain.items);
  long : length l.chain.items + depth_of (entry_at l.settled l.first) ≡ depth_of (entry_at l.settled l.last) + 1;
}

abbrev pub decreases-loop-before : goal.decreases-loop-before
decreases-loop-before l = depth_of (entry_at l.settled l.first)
