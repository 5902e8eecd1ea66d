use Rattle.std.proofs.Common.{◌≡◌, [], map}
use Rattle.std.specs.List.{range_with_len}
use Rattle.mari_links.specs.Links.{links_of, said_by}
use Rattle.mari_links.proofs.so_far.LinksSoFar.new.Given as goal

-- the entries of the bids so far
abbrev pub invariant-loop-bid : goal.invariant-loop-bid
invariant-loop-bid l = l.entries.items ≡ map (links_of l.bids (said_by l.bids [])) (range_with_len 0 l.bid)
