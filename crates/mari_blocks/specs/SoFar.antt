-- What stands in memory while a page of blocks is read.
use Rattle.std.specs.Prelude.{◌≡◌, ℕ, false, List, get_or, length, map}
use Rattle.std.specs.List.{range_with_len}
use Rattle.mari_rows.specs.declared.rows.Row.{Row}
use Rattle.mari_blocks.specs.Blocks.{block_in, is_parent, names_of}
use Rattle.mari_blocks.specs.declared.blocks.BlocksSoFar.{BlocksSoFar}

-- the names of the blocks of these lines, each bid's block, and which bids are parents
pub record HoldsBlocks (rows : List Row) (so_far : BlocksSoFar) : Type 0 where
  pub names : so_far.names ≡ names_of rows
  pub block_of : so_far.block_of.items ≡ map (block_in so_far.bids.now rows) (range_with_len 0 (length so_far.bids.now.ids))
  pub parents : (bid : ℕ) → get_or so_far.parents.items bid false ≡ is_parent so_far.links.now.links bid
