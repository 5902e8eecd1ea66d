use Rattle.std.proofs.Common.{◌≡◌, ℕ, false, get_or, length, take}
use Rattle.mari_blocks.specs.Blocks.{is_parent}
use Rattle.mari_blocks.proofs.blocks.parents_of.Given as goal

-- the parents of the bids so far
abbrev pub invariant-loop-entry : goal.invariant-loop-entry
invariant-loop-entry l = record {
  sized : length l.parents.items ≡ l.count;
  marked : (bid : ℕ) → get_or l.parents.items bid false ≡ is_parent (take l.entry-index l.links) bid;
}
