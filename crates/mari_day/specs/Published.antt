-- A published run: what its block promises, and what an unpublished one says.
use Rattle.std.specs.Prelude.{◌≡◌, ℕ, List, Option}
use Rattle.mari_units.specs.declared.numbers.Cents.{Cents}
use Rattle.mari_market.specs.declared.clearing.Clearing.{Clearing}
use Rattle.mari_market.specs.Clearing.{IsClearing, IsUnpublished}
use Rattle.mari_lines.specs.declared.line.Heading.{Heading}
use Rattle.mari_publish.specs.declared.publication.Block.{Block}
use Rattle.mari_publish.specs.declared.publication.Block.TheVariants as block
use Rattle.mari_publish.specs.declared.publication.FullBlock.{FullBlock}
use Rattle.mari_remain.specs.declared.books.Books.{Books}
use Rattle.mari_remain.specs.declared.market.RunMarket.{RunMarket}
use Rattle.mari_progress.specs.After.{also_after, market_after, run_after}
use Rattle.mari_progress.specs.Money.{HasLedger}
use Rattle.mari_progress.specs.Reported.{NamesMarket, heading_of}
use Rattle.mari_progress.specs.Prices.{HasPrices}
use Rattle.mari_day.specs.Run.{clearing_of}

-- what a block says of a run and of its clearing: its heading, the names of its market's lines, the clearing, the prices,
-- intervals and areas, and the ledger
pub record IsReportedOf (books : Books) (run : ℕ) (made : RunMarket) (also : Option (List Cents)) (clearing : Clearing) (b : FullBlock) : Type 0 where
  pub heading : b.heading ≡ heading_of books run
  pub names : NamesMarket books made b
  pub cleared : clearing_of b ≡ clearing
  pub prices : HasPrices made.market b
  pub ledger : HasLedger books made also b

-- a published run of a market: a first activation of its market, with its welfare and a certificate tree of at most
-- `budget` items that holds at it for its gate word; the prices, intervals and areas; and the ledger
pub record IsPublishedOf (books : Books) (budget run : ℕ) (made : RunMarket) (also : Option (List Cents)) (b : FullBlock) : Type 0 where
  pub heading : b.heading ≡ heading_of books run
  pub names : NamesMarket books made b
  pub clearing : IsClearing made.market budget (clearing_of b)
  pub prices : HasPrices made.market b
  pub ledger : HasLedger books made also b

-- a published run: that of the market after the blocks printed before
abbrev pub IsPublishedRun : Books → (budget : ℕ) → (before : List Block) → FullBlock → Type 0
IsPublishedRun books budget before b = IsPublishedOf books budget (run_after before) (market_after books before) (also_after books before) b

-- a run whose market isn't published: that of the market after the blocks printed before
pub record IsUnpublishedRun (books : Books) (budget : ℕ) (before : List Block) (heading : Heading) (count : ℕ) : Type 0 where
  pub is_of : heading ≡ heading_of books (run_after before)
  pub spent : IsUnpublished (market_after books before).market budget count

-- the block of the run after the blocks printed before
abbrev pub IsBlock : Books → (budget : ℕ) → (before : List Block) → Block → Type 0
IsBlock books budget before (block.Published b) = IsPublishedRun books budget before b
IsBlock books budget before (block.Unpublished heading count) = IsUnpublishedRun books budget before heading count
