use Rattle.std.proofs.Common.{◌≡◌, take}
use Rattle.mari_blocks.specs.Joint.{gates_among}
use Rattle.mari_blocks.proofs.gates.gates_among.Given as goal

-- the gates of the bids so far
abbrev pub invariant-loop-bid : goal.invariant-loop-bid
invariant-loop-bid l = l.gates.items ≡ gates_among l.books l.blocks (take l.bid-index l.numbers)
