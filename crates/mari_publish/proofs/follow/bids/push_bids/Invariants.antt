use Rattle.std.proofs.Common.{◌≡◌, length}
use Rattle.mari_publish.specs.Bids.{BidsTaken}
use Rattle.mari_publish.proofs.follow.bids.push_bids.Given as goal

-- the bids so far are taken, and what stands after their lines is left
abbrev pub invariant-loop-place : goal.invariant-loop-place
invariant-loop-place l = record {
  taken : BidsTaken l.fn.bids.items l.bids.items l.text l.rest;
  place : length l.bids.items ≡ l._place;
}
