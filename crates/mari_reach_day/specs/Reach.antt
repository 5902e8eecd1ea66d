-- A day of the second form. Read this file first; `Lines` spells its text, and `Days` says what a sink takes of it.
use Rattle.std.specs.Prelude.{◌≡◌, ℕ, ◌+◌, List, [], ◌∷◌, Option, length, map}
use Rattle.mari_units.specs.declared.numbers.Cents.{Cents}
use Rattle.mari_publish.specs.declared.publication.Block.{Block}
use Rattle.mari_publish.specs.declared.publication.Block.TheVariants as block
use Rattle.mari_remain.specs.declared.books.Books.{Books}
use Rattle.mari_remain.specs.declared.market.RunMarket.{RunMarket}
use Rattle.mari_progress.specs.After.{also_after, market_after, run_after}
use Rattle.mari_progress.specs.Money.{HasLedger}
use Rattle.mari_progress.specs.Prices.{HasPrices}
use Rattle.mari_progress.specs.Reported.{NamesMarket, activation_of, heading_of}
use Rattle.mari_day.specs.Frame.{IsPartBy}
use Rattle.mari_reached.specs.Answer.{IsAnswer}
use Rattle.mari_reached.specs.declared.answer.Answer.{Answer}
use Rattle.mari_reached.specs.declared.answer.Answer.TheVariants as answer
use Rattle.mari_reached.specs.declared.answer.Found.{Found}
use Rattle.mari_reach_lines.specs.declared.line.Claim.{Claim}
use Rattle.mari_reach_lines.specs.declared.line.Claim.TheVariants.{First, Within}
use Rattle.mari_reach_text.specs.Claims.{one_if_first, one_if_within}
use Rattle.mari_reach_text.specs.Numbers.{gated_of}
use Rattle.mari_reach_day.specs.declared.block.ReachBlock.{ReachBlock}

-- what runs, its welfare and the tree, as a block says it
abbrev pub found_in : ReachBlock → Found
found_in r = record { activation = activation_of r.block; welfare = r.block.welfare; tree = r.tree }

-- the answer that a block states
abbrev pub answered : Claim → Found → Answer
answered First f = answer.First f
answered (Within gap) f = answer.Within f gap

-- the block of a run's market: an answer of it, which is the first activation or one within a gap, with a tree of at most
-- the budget's items that shows it; the prices, intervals and areas; the ledger; and no
-- certificate tree of the first form
pub record IsReachOf (books : Books) (budget run : ℕ) (made : RunMarket) (also : Option (List Cents)) (r : ReachBlock) : Type 0 where
  pub heading : r.block.heading ≡ heading_of books run
  pub names : NamesMarket books made r.block
  pub bare : r.block.tree ≡ []
  pub gated : r.gated ≡ gated_of books made
  pub answer : IsAnswer made.market budget (answered r.claim (found_in r))
  pub prices : HasPrices made.market r.block
  pub ledger : HasLedger books made also r.block

-- a block as the later runs read it: each is published
abbrev pub block_of : ReachBlock → Block
block_of r = block.Published r.block

abbrev pub blocks_of : List ReachBlock → List Block
blocks_of blocks = map block_of blocks

-- the block of the run after the blocks printed before, of the market that they leave
abbrev pub IsReachBlock : Books → (budget : ℕ) → (before : List ReachBlock) → ReachBlock → Type 0
IsReachBlock books budget before r =
    IsReachOf books budget (run_after (blocks_of before)) (market_after books (blocks_of before)) (also_after books (blocks_of before)) r

-- the blocks of the first runs in order, each after the blocks printed before it
abbrev pub IsReachPart : Books → (budget : ℕ) → List ReachBlock → Type 0
IsReachPart books budget blocks = IsPartBy (length books.runs.runs) (IsReachBlock books budget) blocks

-- a block for every run
pub record IsReachDay (books : Books) (budget : ℕ) (blocks : List ReachBlock) : Type 0 where
  pub part : IsReachPart books budget blocks
  pub every : length blocks ≡ length books.runs.runs

-- how many of the blocks state the first activation of their market
abbrev pub first_in : List ReachBlock → ℕ
first_in [] = 0
first_in (r ∷ rs) = one_if_first r.claim + first_in rs

-- and how many one within a gap
abbrev pub within_in : List ReachBlock → ℕ
within_in [] = 0
within_in (r ∷ rs) = one_if_within r.claim + within_in rs
