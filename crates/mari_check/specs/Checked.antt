-- What the check of a day keeps between its blocks, and the blocks that it stands for.
use Rattle.std.specs.Prelude.{ℕ, ◌≡◌, List, Option, Some, None}
use Rattle.mari_lines.specs.declared.line.Heading.{Heading}
use Rattle.mari_publish.specs.declared.publication.Block.{Block}
use Rattle.mari_publish.specs.declared.publication.Block.TheVariants as block
use Rattle.mari_publish.specs.declared.publication.FullBlock.{FullBlock}
use Rattle.mari_publish.specs.Lines.{unpublished_in}
use Rattle.mari_remain.specs.declared.books.Books.{Books}
use Rattle.mari_progress.specs.After.{also_after, market_after}
use Rattle.mari_progress.specs.Progress.{IsProgress}
use Rattle.mari_progress.specs.Runs.{IsRunOf}
use Rattle.mari_check.specs.declared.day.DayCheck.{DayCheck}
use Rattle.mari_check.specs.declared.day.TestedBlock.{TestedBlock}
use Rattle.mari_check.specs.declared.day.TestedBlock.TheVariants.{Faulty, Sound}
use Rattle.mari_check.specs.declared.fault.Fault.{Fault}
use Rattle.mari_check.specs.declared.fault.Fault.TheVariants as fault
use Rattle.mari_check.specs.Day.{AreFree, IsFreeIn}
use Rattle.mari_check.specs.Faults.{IsLeast, fault_number}

-- what is kept stands for blocks of the first runs, none of which has a fault: what a day keeps of them, and how many
-- of them aren't published
pub record IsChecked (books : Books) (blocks : List Block) (day : DayCheck) : Type 0 where
  pub free : AreFree books day.budget blocks
  pub progress : IsProgress books blocks day.progress
  pub unpublished : day.unpublished ≡ unpublished_in blocks

-- a printed block that isn't published
abbrev pub unpublished_block : Heading → (count : ℕ) → Block
unpublished_block heading count = block.Unpublished heading count

-- the test of a published block states its least fault, or that it has none and what it adds
abbrev pub TestsBlock : Books → (budget : ℕ) → (before : List Block) → FullBlock → TestedBlock → Type 0
TestsBlock books budget before b (Faulty least) = IsLeast (IsFreeIn books budget before (block.Published b)) least
TestsBlock books budget before b (Sound settled) =
    ((any : Fault) → IsFreeIn books budget before (block.Published b) any) × IsRunOf books (market_after books before) (also_after books before) b
    settled

-- the fault of the first line is reported exactly where it is there
abbrev pub FindsHead : (right : Type 0) → Option ℕ → Type 0
FindsHead right None = right
FindsHead right (Some number) = (right → ⊥) × (number ≡ fault_number fault.Heading)
