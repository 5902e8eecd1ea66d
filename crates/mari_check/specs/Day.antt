-- The faults of a whole publication: which run is reported with which fault, and when it is valid.
use Rattle.std.specs.Prelude.{◌≡◌, ◌⊎◌, ◌+◌, ◌<◌, ◌≤◌, ℕ, List, Some, length, slice_get, take, ⊤}
use Rattle.mari_publish.specs.declared.publication.Block.{Block}
use Rattle.mari_publish.specs.declared.publication.Block.TheVariants as block
use Rattle.mari_publish.specs.declared.publication.FullBlock.{FullBlock}
use Rattle.mari_lines.specs.declared.line.Heading.{Heading}
use Rattle.mari_publish.specs.declared.publication.Publication.{Publication}
use Rattle.mari_remain.specs.declared.books.Books.{Books}
use Rattle.mari_check.specs.declared.fault.Fault.{Fault}
use Rattle.mari_check.specs.declared.fault.Fault.TheVariants as fault
use Rattle.mari_progress.specs.After.{also_after, market_after, run_after}
use Rattle.mari_check.specs.Faults.{IsFreeOf, IsLeast, fault_number}
use Rattle.mari_progress.specs.Reported.{heading_of}
use Rattle.mari_progress.specs.Totals.{HasHead, HasTotals}

-- there is a run after these blocks, and the heading is its own
pub record IsNextHeading (books : Books) (before : List Block) (heading : Heading) : Type 0 where
  pub there : run_after before ≤ length books.runs.runs
  pub is_of : heading ≡ heading_of books (run_after before)

-- a number of nodes is no more than the budget, and two more would be
pub record FillsBudget (budget count : ℕ) : Type 0 where
  pub within : count ≤ budget
  pub full : budget < count + 2

-- what is so where a published block of the run after these blocks doesn't have a fault
abbrev pub IsPublishedFree : Books → (budget : ℕ) → (before : List Block) → FullBlock → Fault → Type 0
IsPublishedFree books budget before b any =
    IsFreeOf books (run_after before) (market_after books before) (also_after books before) (Some budget) b any

-- and where an unpublished one doesn't, which has two faults alone
abbrev pub IsUnpublishedFree : Books → (budget : ℕ) → (before : List Block) → Heading → (count : ℕ) → Fault → Type 0
IsUnpublishedFree books budget before heading count fault.Heading = IsNextHeading books before heading
IsUnpublishedFree books budget before heading count fault.Lines = ⊤
IsUnpublishedFree books budget before heading count fault.Infeasible = ⊤
IsUnpublishedFree books budget before heading count fault.Welfare = ⊤
IsUnpublishedFree books budget before heading count fault.Inconsistent = ⊤
IsUnpublishedFree books budget before heading count fault.Interval = ⊤
IsUnpublishedFree books budget before heading count fault.Price = ⊤
IsUnpublishedFree books budget before heading count fault.Area = ⊤
IsUnpublishedFree books budget before heading count fault.Tree = FillsBudget budget count
IsUnpublishedFree books budget before heading count fault.Leaf = ⊤
IsUnpublishedFree books budget before heading count fault.Ledger = ⊤
IsUnpublishedFree books budget before heading count fault.Totals = ⊤

-- what is so where the block after these blocks doesn't have a fault. A published one whose run isn't there has a
-- fault in its heading
abbrev pub IsFreeIn : Books → (budget : ℕ) → (before : List Block) → Block → Fault → Type 0
IsFreeIn books budget before (block.Published b) any = (run_after before ≤ length books.runs.runs) × IsPublishedFree books budget before b any
IsFreeIn books budget before (block.Unpublished heading count) any = IsUnpublishedFree books budget before heading count any

-- none of these blocks has a fault, each after those before it
abbrev pub AreFree : Books → (budget : ℕ) → List Block → Type 0
AreFree books budget blocks = (k : ℕ) (b : Block) → slice_get blocks k ≡ Some b → (any : Fault) → IsFreeIn books budget (take k blocks) b any

-- a valid publication: its first line is that of the books, there is a block for each run and none of them has a fault,
-- and the totals are their sums
pub record IsValidPublication (books : Books) (p : Publication) : Type 0 where
  pub head : HasHead books p.date p.quarters
  pub blocks : AreFree books p.budget p.blocks
  pub every : length p.blocks ≡ length books.runs.runs
  pub totals : HasTotals books p

-- a block is the first that has a fault: the run at its place is reported, with the block's least fault
pub record IsBlockFault (books : Books) (p : Publication) (run number : ℕ) : Type 0 where
  pub head : HasHead books p.date p.quarters
  pub place : ℕ
  pub block : Block
  pub there : slice_get p.blocks place ≡ Some block
  pub before : AreFree books p.budget (take place p.blocks)
  pub least : Fault
  pub is_least : IsLeast (IsFreeIn books p.budget (take place p.blocks) block) least
  pub run_is : run ≡ place + 1
  pub number_is : number ≡ fault_number least

-- no block has a fault, and the block of a run is missing: the run is reported, with the fault of a heading
pub record IsMissing (books : Books) (p : Publication) (run number : ℕ) : Type 0 where
  pub head : HasHead books p.date p.quarters
  pub blocks : AreFree books p.budget p.blocks
  pub missing : length p.blocks < length books.runs.runs
  pub run_is : run ≡ run_after p.blocks
  pub number_is : number ≡ fault_number fault.Heading

-- nothing else is wrong, and a line of the totals is: the last run is reported, or 0 where there is none
pub record IsTotalsFault (books : Books) (p : Publication) (run number : ℕ) : Type 0 where
  pub head : HasHead books p.date p.quarters
  pub blocks : AreFree books p.budget p.blocks
  pub every : length p.blocks ≡ length books.runs.runs
  pub differ : HasTotals books p → ⊥
  pub run_is : run ≡ length books.runs.runs
  pub number_is : number ≡ fault_number fault.Totals

-- the first line is another: run 0 is reported, with the fault of a heading
pub record IsHeadFault (books : Books) (p : Publication) (run number : ℕ) : Type 0 where
  pub differs : HasHead books p.date p.quarters → ⊥
  pub run_is : run ≡ 0
  pub number_is : number ≡ fault_number fault.Heading

-- the first run of a publication that has a fault, and its least fault
abbrev pub IsFirstFault : Books → Publication → (run number : ℕ) → Type 0
IsFirstFault books p run number =
    IsHeadFault books p run number ⊎ (IsBlockFault books p run number ⊎ (IsMissing books p run number ⊎ IsTotalsFault books p run number))
