-- A day whose runs are cleared island by island. Read this file first; `Lines` spells its text, and `Days` says what a
-- sink takes of it.
use Rattle.std.specs.Prelude.{◌≡◌, ℕ, ◌+◌, ◌<◌, ◌≤◌, List, Option, length, map, slice_get, take}
use Rattle.std.specs.List.{All}
use Rattle.std.specs.Option.{IsSomeAnd}
use Rattle.mari_units.specs.declared.numbers.Cents.{Cents}
use Rattle.mari_lines.specs.declared.line.Heading.{Heading}
use Rattle.mari_publish.specs.declared.publication.Block.{Block}
use Rattle.mari_publish.specs.declared.publication.Block.TheVariants as block
use Rattle.mari_publish.specs.declared.publication.FullBlock.{FullBlock}
use Rattle.mari_remain.specs.declared.books.Books.{Books}
use Rattle.mari_remain.specs.declared.market.RunMarket.{RunMarket}
use Rattle.mari_market.specs.Clearing.{IsUnpublished}
use Rattle.mari_market.specs.SearchTree.{HasSize}
use Rattle.mari_progress.specs.After.{also_after, market_after, run_after}
use Rattle.mari_progress.specs.Money.{HasLedger}
use Rattle.mari_progress.specs.Prices.{HasPrices}
use Rattle.mari_progress.specs.Reported.{NamesMarket, activation_of, heading_of}
use Rattle.mari_day.specs.Frame.{IsPartBy}
use Rattle.mari_islands.specs.declared.islands.Island.{Island}
use Rattle.mari_islands.specs.declared.join.Joined.{Joined}
use Rattle.mari_islands.specs.Cleared.{ArePublished, IsClearable, IsFirstOfWhole}
use Rattle.mari_islands.specs.Islands.{AreIslands}
use Rattle.mari_split.specs.declared.split.SplitBlock.{SplitBlock}
use Rattle.mari_split.specs.declared.split.SplitBlock.TheVariants as split
use Rattle.mari_split.specs.declared.split.SplitRun.{SplitRun}

-- what runs in the whole market, and its welfare, as a block says it
abbrev pub joined_in : FullBlock → Joined
joined_in b = record { activation = activation_of b; welfare = b.welfare }

-- a published run of a market: the first activation of it, with its welfare; the prices, intervals and areas; the
-- ledger, of which the text prints the rents; and the islands, each with a clearing, which has the island's own welfare
-- and a certificate tree of at most the budget's items that holds at it for the gate word of what the activation is
-- there. Nothing flows over a border of no island, and the welfare is the sum of the islands'
pub record IsSplitOf (books : Books) (budget run : ℕ) (made : RunMarket) (also : Option (List Cents)) (r : SplitRun) : Type 0 where
  pub heading : r.block.heading ≡ heading_of books run
  pub names : NamesMarket books made r.block
  pub first : IsFirstOfWhole made.market (joined_in r.block)
  pub prices : HasPrices made.market r.block
  pub ledger : HasLedger books made also r.block
  pub islands : AreIslands made.market r.islands
  pub published : ArePublished made.market r.islands budget (joined_in r.block) r.clearings

-- a block as the later runs read it
abbrev pub block_of : SplitBlock → Block
block_of (split.Published r) = block.Published r.block
block_of (split.Unpublished heading island count) = block.Unpublished heading count

abbrev pub blocks_of : List SplitBlock → List Block
blocks_of blocks = map block_of blocks

-- a published run: that of the market after the blocks printed before
abbrev pub IsSplitRun : Books → (budget : ℕ) → (before : List SplitBlock) → SplitRun → Type 0
IsSplitRun books budget before r =
    IsSplitOf books budget (run_after (blocks_of before)) (market_after books (blocks_of before)) (also_after books (blocks_of before)) r

-- a run of a market that isn't published: the islands before the one of this number, counted from 1, can be cleared
-- within the budget, which is spent on that one
-- `IsIslandSpent` says it of a search, with the part of the tree that it made; a block has no more than the count.
pub record IsUnpublishedSplitOf (books : Books) (budget run : ℕ) (made : RunMarket) (heading : Heading) (island count : ℕ) : Type 0 where
  pub is_of : heading ≡ heading_of books run
  pub place : ℕ
  pub numbered : island ≡ place + 1
  pub islands : List Island
  pub are_islands : AreIslands made.market islands
  pub earlier : All (IsClearable budget) (take place islands)
  pub spent : IsSomeAnd (slice_get islands place) (λ (i : Island). IsUnpublished i.market budget count)

-- one of the market after the blocks printed before
abbrev pub IsUnpublishedSplitRun : Books → (budget : ℕ) → (before : List SplitBlock) → Heading → (island count : ℕ) → Type 0
IsUnpublishedSplitRun books budget before heading island count =
    IsUnpublishedSplitOf books budget (run_after (blocks_of before)) (market_after books (blocks_of before)) heading island count

-- the block of the run after the blocks printed before
abbrev pub IsSplitBlock : Books → (budget : ℕ) → (before : List SplitBlock) → SplitBlock → Type 0
IsSplitBlock books budget before (split.Published r) = IsSplitRun books budget before r
IsSplitBlock books budget before (split.Unpublished heading island count) = IsUnpublishedSplitRun books budget before heading island count

-- the blocks of the first runs in order, each after the blocks printed before it
abbrev pub IsSplitPart : Books → (budget : ℕ) → List SplitBlock → Type 0
IsSplitPart books budget blocks = IsPartBy (length books.runs.runs) (IsSplitBlock books budget) blocks

-- a block for every run
pub record IsSplitDay (books : Books) (budget : ℕ) (blocks : List SplitBlock) : Type 0 where
  pub part : IsSplitPart books budget blocks
  pub every : length blocks ≡ length books.runs.runs

-- an island's search tree is within the budget
abbrev pub IsWithin : (budget : ℕ) → Island → Type 0
IsWithin budget i = (size : ℕ) × HasSize i.market size × (size ≤ budget)

-- whatever blocks are printed, the budget holds the search tree of each island of the market of the next run
abbrev pub HoldsIslands : Books → (budget : ℕ) → Type 0
HoldsIslands books budget = (blocks : List SplitBlock) (islands : List Island) → IsSplitPart books budget blocks → length blocks < length books.runs.runs
    → AreIslands (market_after books (blocks_of blocks)).market islands → All (IsWithin budget) islands
