-- The verdict on a day of the second form. Read this file after `Faults` and `Day`.
use Rattle.std.specs.Prelude.{◌≡◌, ◌<◌, ◌+◌, ◌⊎◌, ℕ, List, Option, Some, None, length, slice_get, take}
use Rattle.mari_remain.specs.declared.books.Books.{Books}
use Rattle.mari_progress.specs.After.{run_after}
use Rattle.mari_progress.specs.Totals.{HasHead}
use Rattle.mari_check.specs.Faults.{FindsNumber, IsLeast, fault_number}
use Rattle.mari_check.specs.declared.fault.Fault.{Fault}
use Rattle.mari_check.specs.declared.fault.Fault.TheVariants as fault
use Rattle.mari_reach_text.specs.Claims.{first_among, within_among}
use Rattle.mari_reach_text.specs.Texts.{ReachPublication}
use Rattle.mari_reach_text.specs.declared.named.NamedBlock.{NamedBlock}
use Rattle.mari_reach_check.specs.Day.{AreReachFree, AreSums, IsReachFreeIn, all_printed}
use Rattle.mari_reach_check.specs.declared.verdict.ReachVerdict.{ReachVerdict}
use Rattle.mari_reach_check.specs.declared.verdict.ReachVerdict.TheVariants.{Invalid, Valid}

-- a valid day: its first line is that of the books, there is a block for each run and none of them has a fault, and the totals
-- are their sums
pub record IsReachValid (books : Books) (p : ReachPublication) : Type 0 where
  pub head : HasHead books p.date p.quarters
  pub blocks : AreReachFree books p.budget p.blocks
  pub every : length p.blocks ≡ length books.runs.runs
  pub totals : AreSums books p.blocks p.operators p.providers

-- the first line is another: run 0 is reported, with the fault of a heading
pub record IsReachHeadFault (books : Books) (p : ReachPublication) (run number : ℕ) : Type 0 where
  pub differs : HasHead books p.date p.quarters → ⊥
  pub run_is : run ≡ 0
  pub number_is : number ≡ fault_number fault.Heading

-- a block is the first that has a fault: the run at its place is reported, with the block's least fault
pub record IsReachBlockFault (books : Books) (p : ReachPublication) (run number : ℕ) : Type 0 where
  pub head : HasHead books p.date p.quarters
  pub place : ℕ
  pub block : NamedBlock
  pub there : slice_get p.blocks place ≡ Some block
  pub before : AreReachFree books p.budget (take place p.blocks)
  pub least : Fault
  pub is_least : IsLeast (IsReachFreeIn books p.budget (take place p.blocks) block) least
  pub run_is : run ≡ place + 1
  pub number_is : number ≡ fault_number least

-- no block has a fault, and the block of a run is missing: the run is reported, with the fault of a heading
pub record IsReachMissing (books : Books) (p : ReachPublication) (run number : ℕ) : Type 0 where
  pub head : HasHead books p.date p.quarters
  pub blocks : AreReachFree books p.budget p.blocks
  pub missing : length p.blocks < length books.runs.runs
  pub run_is : run ≡ run_after (all_printed p.blocks)
  pub number_is : number ≡ fault_number fault.Heading

-- nothing else is wrong, and a line of the totals is: the last run is reported, or 0 where there is none
pub record IsReachTotalsFault (books : Books) (p : ReachPublication) (run number : ℕ) : Type 0 where
  pub head : HasHead books p.date p.quarters
  pub blocks : AreReachFree books p.budget p.blocks
  pub every : length p.blocks ≡ length books.runs.runs
  pub differ : AreSums books p.blocks p.operators p.providers → ⊥
  pub run_is : run ≡ length books.runs.runs
  pub number_is : number ≡ fault_number fault.Totals

-- the first run of a day that has a fault, and its least fault
abbrev pub IsReachFirstFault : Books → ReachPublication → (run number : ℕ) → Type 0
IsReachFirstFault books p run number =
    IsReachHeadFault books p run number
    ⊎ (IsReachBlockFault books p run number ⊎ (IsReachMissing books p run number ⊎ IsReachTotalsFault books p run number))

-- a valid day is reported with the numbers of its runs that have the first activation and of those that have one within a
-- gap, any other with its first fault
abbrev pub IsReachVerdict : Books → ReachPublication → ReachVerdict → Type 0
IsReachVerdict books p (Valid first within) = IsReachValid books p × (first ≡ first_among p.blocks) × (within ≡ within_among p.blocks)
IsReachVerdict books p (Invalid run number) = IsReachFirstFault books p run number

-- the verdict on the first line: run 0 where it isn't that of the books, and none where it is
abbrev pub HeadVerdict : Books → ReachPublication → Option ReachVerdict → Type 0
HeadVerdict books p None = HasHead books p.date p.quarters
HeadVerdict books p (Some (Valid first within)) = ⊥
HeadVerdict books p (Some (Invalid run number)) = IsReachHeadFault books p run number

-- the verdict on the block after these blocks: its run, with its least fault, where it has one, and none where it has none
abbrev pub BlockVerdict : Books → (budget : ℕ) → (before : List NamedBlock) → NamedBlock → Option ReachVerdict → Type 0
BlockVerdict books budget before b None = (any : Fault) → IsReachFreeIn books budget before b any
BlockVerdict books budget before b (Some (Valid first within)) = ⊥
BlockVerdict books budget before b (Some (Invalid run number)) =
    (run ≡ run_after (all_printed before)) × FindsNumber (IsReachFreeIn books budget before b) (Some number)
