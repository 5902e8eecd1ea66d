-- What a day keeps between its runs, and the blocks that it stands for.
use Rattle.std.specs.Prelude.{ℕ, ◌-◌, List, Option, Some, None, ⊤, length}
use Rattle.std.specs.List.{All}
use Rattle.mari_publish.specs.declared.publication.Block.{Block}
use Rattle.mari_publish.specs.declared.publication.Block.TheVariants as block
use Rattle.mari_publish.specs.Ranges.{BlockFits}
use Rattle.mari_market.specs.Clearing.{IsBudget}
use Rattle.mari_remain.specs.Accepted.{IsAccepted}
use Rattle.mari_remain.specs.declared.books.Books.{Books}
use Rattle.mari_progress.specs.declared.progress.Progress.{Progress}
use Rattle.mari_progress.specs.declared.progress.SettledRun.{SettledRun}
use Rattle.mari_progress.specs.After.{also_after, market_after}
use Rattle.mari_progress.specs.Progress.{IsProgress}
use Rattle.mari_progress.specs.Runs.{IsRunOf}
use Rattle.mari_day.specs.declared.run.RunDone.{RunDone}
use Rattle.mari_day.specs.Dated.{IsDated}
use Rattle.mari_day.specs.Day.{IsPrintedDay}
use Rattle.mari_day.specs.Published.{IsBlock}

-- what is kept of the day of these books stands for these blocks, whose numbers are in range
pub record KeepsDay (books : Books) (budget : ℕ) (blocks : List Block) (p : Progress) : Type 0 where
  pub accepted : IsAccepted books
  pub dated : IsDated books
  pub nodes : IsBudget budget
  pub fits : All BlockFits blocks
  pub kept : IsProgress books blocks p

-- the text is that of a whole day of these books, of whose blocks so many are published
abbrev pub PrintsWhole : Books × ℕ → (published : ℕ) → List ℕ → Type 0
PrintsWhole of published text = IsPrintedDay of.0 of.1 (record { text = text; published = published; unpublished = length of.0.runs.runs - published })

-- what a block adds to its day, which is nothing unless it is published
abbrev pub IsSettledIn : Books → (before : List Block) → Block → Option SettledRun → Type 0
IsSettledIn books before (block.Published b) (Some settled) = IsRunOf books (market_after books before) (also_after books before) b settled
IsSettledIn books before (block.Published b) None = ⊥
IsSettledIn books before (block.Unpublished heading count) (Some settled) = ⊥
IsSettledIn books before (block.Unpublished heading count) None = ⊤

-- the block of the run after these blocks, with what it adds
pub record IsRunDone (books : Books) (budget : ℕ) (before : List Block) (done : RunDone) : Type 0 where
  pub block : IsBlock books budget before done.block
  pub settled : IsSettledIn books before done.block done.settled
