-- The market that a block is checked with.
use Rattle.std.specs.Prelude.{◌≡◌, ◌≤◌, ℕ, List, length}
use Rattle.mari_remain.specs.Blocks.{PastBlock}
use Rattle.mari_remain.specs.FirstBlocks.{AreFirstBlocks}
use Rattle.mari_remain.specs.RunMarket.{run_market_of}
use Rattle.mari_remain.specs.declared.books.Books.{Books}
use Rattle.mari_remain.specs.declared.market.RunMarket.{RunMarket}

-- the market of a run that is there, after some blocks of the first runs
pub record IsMadeFor (books : Books) (run : ℕ) (made : RunMarket) : Type 0 where
  pub blocks : List PastBlock
  pub first : AreFirstBlocks books blocks
  pub from_one : 1 ≤ run
  pub there : run ≤ length books.runs.runs
  pub made_of : made ≡ run_market_of books blocks run
