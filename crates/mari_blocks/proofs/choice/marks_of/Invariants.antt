use Rattle.std.proofs.Common.{◌≡◌, ℕ, false, get_or, length, take}
use Rattle.mari_blocks.specs.Joint.{is_one_of}
use Rattle.mari_blocks.proofs.choice.marks_of.Given as goal

-- the marks of the numbers so far
abbrev pub invariant-loop-number : goal.invariant-loop-number
invariant-loop-number l = record {
  sized : length l.marks.items ≡ l.bids;
  marked : (bid : ℕ) → get_or l.marks.items bid false ≡ is_one_of (take l.number-index l.numbers) bid;
}
