use Rattle.std.proofs.Common.{◌≡◌, ℕ, false, get_or, length}
use Rattle.std.specs.Prelude.{◌&&◌, not}
use Rattle.std.specs.List.{list_any, range_with_len}
use Rattle.mari_blocks.specs.Joint.{is_in_block, is_one_of}
use Rattle.mari_blocks.proofs.choice.left_out.Given as goal

-- the blocks that are left out for a bid so far
abbrev pub invariant-loop-bid : goal.invariant-loop-bid
invariant-loop-bid l = record {
  sized : length l.marks.items ≡ length l.blocks.names;
  marked : (block : ℕ) → get_or l.marks.items block false ≡ list_any (λ bid. is_in_block l.blocks block bid && not (is_one_of l.offered bid)) (range_with_len 0 l.bid);
}
