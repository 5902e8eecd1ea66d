-- What is kept of a day of the second form, and what a run of it comes to.
use Rattle.std.specs.Prelude.{ℕ, ◌≡◌, ◌-◌, List, Some, length}
use Rattle.std.specs.List.{All}
use Rattle.mari_day.specs.Dated.{IsDated}
use Rattle.mari_day.specs.Progress.{IsSettledIn}
use Rattle.mari_market.specs.Clearing.{IsBudget}
use Rattle.mari_remain.specs.Accepted.{IsAccepted}
use Rattle.mari_remain.specs.declared.books.Books.{Books}
use Rattle.mari_progress.specs.declared.progress.Progress.{Progress}
use Rattle.mari_progress.specs.Progress.{IsProgress}
use Rattle.mari_reach_day.specs.declared.block.ReachBlock.{ReachBlock}
use Rattle.mari_reach_day.specs.declared.run.ReachDone.{ReachDone}
use Rattle.mari_reach_day.specs.Days.{IsReachDayText}
use Rattle.mari_reach_day.specs.Ranges.{ReachFits}
use Rattle.mari_reach_day.specs.Reach.{IsReachBlock, block_of, blocks_of, first_in}

-- what is kept of the day of these books stands for these blocks, whose numbers are in range
pub record KeepsReach (books : Books) (budget : ℕ) (blocks : List ReachBlock) (first : ℕ) (p : Progress) : Type 0 where
  pub accepted : IsAccepted books
  pub dated : IsDated books
  pub nodes : IsBudget budget
  pub fits : All ReachFits blocks
  pub kept : IsProgress books (blocks_of blocks) p
  pub counted : first ≡ first_in blocks

-- the text is that of a whole day of these books, so many runs of which have the first activation
abbrev pub PrintsWholeReach : Books × ℕ → (first : ℕ) → List ℕ → Type 0
PrintsWholeReach of first text = IsReachDayText of.0 of.1 first (length of.0.runs.runs - first) text

-- the block of the run after these blocks, with what it adds to its day
pub record IsReachDone (books : Books) (budget : ℕ) (before : List ReachBlock) (done : ReachDone) : Type 0 where
  pub block : IsReachBlock books budget before done.block
  pub settled : IsSettledIn books (blocks_of before) (block_of done.block) (Some done.settled)
