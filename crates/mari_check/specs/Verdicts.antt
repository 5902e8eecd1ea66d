-- The verdict on a whole publication.
use Rattle.std.specs.Prelude.{◌≡◌, ℕ, List, Option, Some, None}
use Rattle.mari_publish.specs.declared.publication.Block.{Block}
use Rattle.mari_publish.specs.declared.publication.Publication.{Publication}
use Rattle.mari_publish.specs.Lines.{published_in, unpublished_in}
use Rattle.mari_remain.specs.declared.books.Books.{Books}
use Rattle.mari_check.specs.declared.verdict.Verdict.{Verdict}
use Rattle.mari_check.specs.declared.verdict.Verdict.TheVariants.{Valid, Invalid}
use Rattle.mari_progress.specs.After.{run_after}
use Rattle.mari_progress.specs.Totals.{HasHead}
use Rattle.mari_check.specs.declared.fault.Fault.{Fault}
use Rattle.mari_check.specs.Day.{IsFirstFault, IsFreeIn, IsHeadFault, IsValidPublication}
use Rattle.mari_check.specs.Faults.{FindsNumber}

-- a valid publication is reported with the numbers of its published and of its other blocks, any other with its first fault
abbrev pub IsVerdict : Books → Publication → Verdict → Type 0
IsVerdict books p (Valid published unpublished) = IsValidPublication books p × (published ≡ published_in p.blocks) × (unpublished ≡ unpublished_in p.blocks)
IsVerdict books p (Invalid run number) = IsFirstFault books p run number

-- the verdict on the first line: run 0 where it isn't that of the books, and none where it is
abbrev pub HeadStates : Books → Publication → Option Verdict → Type 0
HeadStates books p None = HasHead books p.date p.quarters
HeadStates books p (Some (Valid published unpublished)) = ⊥
HeadStates books p (Some (Invalid run number)) = IsHeadFault books p run number

-- the verdict on the block after these blocks: its run, with its least fault, where it has one, and none where it has
-- none
abbrev pub BlockStates : Books → (budget : ℕ) → (before : List Block) → Block → Option Verdict → Type 0
BlockStates books budget before b None = (any : Fault) → IsFreeIn books budget before b any
BlockStates books budget before b (Some (Valid published unpublished)) = ⊥
BlockStates books budget before b (Some (Invalid run number)) = (run ≡ run_after before) × FindsNumber (IsFreeIn books budget before b) (Some number)
