-- What is kept of a day whose runs are cleared island by island, and what clearing one of them comes to.
use Rattle.std.specs.Prelude.{ℕ, ◌≡◌, ◌≤◌, ◌-◌, List, Option, ⊤, length}
use Rattle.std.specs.List.{All}
use Rattle.mari_day.specs.Dated.{IsDated}
use Rattle.mari_day.specs.Progress.{IsSettledIn}
use Rattle.mari_market.specs.Clearing.{IsBudget}
use Rattle.mari_market.specs.declared.clearing.Clearing.{Clearing}
use Rattle.mari_publish.specs.Ranges.{MarketFits}
use Rattle.mari_remain.specs.Accepted.{IsAccepted}
use Rattle.mari_remain.specs.declared.books.Books.{Books}
use Rattle.mari_progress.specs.declared.progress.Progress.{Progress}
use Rattle.mari_progress.specs.declared.progress.SettledRun.{SettledRun}
use Rattle.mari_progress.specs.Progress.{IsProgress}
use Rattle.mari_split.specs.declared.run.SplitDone.{SplitDone}
use Rattle.mari_split.specs.declared.split.SplitBlock.{SplitBlock}
use Rattle.mari_split.specs.declared.split.SplitBlock.TheVariants as split
use Rattle.mari_split.specs.declared.split.SplitRun.{SplitRun}
use Rattle.mari_split.specs.Days.{IsSplitDayText}
use Rattle.mari_split.specs.Split.{IsSplitBlock, block_of, blocks_of}
use Rattle.mari_units.specs.declared.limits.TheConstants.{MOST_NODES, MOST_ZONES}

-- the numbers of a published run are in range, so that its text can be written
pub record RunFits (r : SplitRun) : Type 0 where
  pub market : MarketFits r.block
  pub few : length r.islands ≤ MOST_ZONES
  pub one_each : length r.clearings ≡ length r.islands
  pub trees : All (λ (c : Clearing). length c.tree ≤ MOST_NODES) r.clearings

abbrev pub SplitFits : SplitBlock → Type 0
SplitFits (split.Published r) = RunFits r
SplitFits (split.Unpublished heading island count) = ⊤

-- what is kept of the day of these books stands for these blocks
pub record KeepsSplit (books : Books) (budget : ℕ) (blocks : List SplitBlock) (p : Progress) : Type 0 where
  pub accepted : IsAccepted books
  pub dated : IsDated books
  pub nodes : IsBudget budget
  pub kept : IsProgress books (blocks_of blocks) p

-- the text is that of a whole day of these books, of whose blocks so many are published
abbrev pub PrintsWholeSplit : Books × ℕ → (published : ℕ) → List ℕ → Type 0
PrintsWholeSplit of published text = IsSplitDayText of.0 of.1 published (length of.0.runs.runs - published) text

-- what a block adds to its day: the same as the block that the later runs read
abbrev pub AddsToDay : Books → (before : List SplitBlock) → SplitBlock → Option SettledRun → Type 0
AddsToDay books before b settled = IsSettledIn books (blocks_of before) (block_of b) settled

-- the block of the run after these blocks, with what it adds
pub record IsSplitDone (books : Books) (budget : ℕ) (before : List SplitBlock) (done : SplitDone) : Type 0 where
  pub block : IsSplitBlock books budget before done.block
  pub settled : AddsToDay books before done.block done.settled
