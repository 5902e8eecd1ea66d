use Rattle.std.proofs.Common.{◌≤◌, ◌<◌, ℕ}
use Rattle.mari_links.specs.Links.{quarter_of}
use Rattle.mari_links.proofs.gates.last_quarter.Given as goal

-- no bid so far is of a later quarter
abbrev pub invariant-loop-bid : goal.invariant-loop-bid
invariant-loop-bid l = (k : ℕ) → k < l.bid-index → quarter_of l.bids k ≤ l.last
