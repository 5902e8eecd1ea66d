use Rattle.std.proofs.Common.{◌≡◌, ◌++◌, drop, map}
use Rattle.mari_bids.specs.declared.bids.Bid.{Bid}
use Rattle.mari_remain.proofs.remaining.bid_quarters.Given as goal

-- with those still to come it is the whole
abbrev pub invariant-loop-bid : goal.invariant-loop-bid
invariant-loop-bid l = l.quarters.items ++ map (λ (b : Bid). b.quarter) (drop l.bid-index l.bids) ≡ map (λ (b : Bid). b.quarter) l.bids
