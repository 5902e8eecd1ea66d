-- The blocks of a day of the second form that were checked, and what is reported of the next one and of the whole.
use Rattle.std.specs.Prelude.{◌≡◌, ◌≤◌, ◌<◌, ◌+◌, ℕ, List, Some, length, map, slice_get, take}
use Rattle.mari_lines.specs.declared.line.AmountLine.{AmountLine}
use Rattle.mari_lines.specs.declared.line.MoneyLine.{MoneyLine}
use Rattle.mari_publish.specs.declared.publication.Block.{Block}
use Rattle.mari_publish.specs.declared.publication.Block.TheVariants as block
use Rattle.mari_remain.specs.declared.books.Books.{Books}
use Rattle.mari_progress.specs.After.{also_after, market_after, run_after}
use Rattle.mari_progress.specs.Progress.{IsProgress}
use Rattle.mari_progress.specs.Totals.{operator_totals, provider_totals}
use Rattle.mari_check.specs.declared.fault.Fault.{Fault}
use Rattle.mari_reach_text.specs.Claims.{first_among}
use Rattle.mari_reach_text.specs.declared.named.NamedBlock.{NamedBlock}
use Rattle.mari_reach_check.specs.declared.day.ReachDayCheck.{ReachDayCheck}
use Rattle.mari_reach_check.specs.declared.day.Ending.{Ending}
use Rattle.mari_reach_check.specs.declared.day.Ending.TheVariants as ending
use Rattle.mari_reach_check.specs.Faults.{IsReachFreeOf}

-- a block as the later runs read it: each is published
abbrev pub printed : NamedBlock → Block
printed b = block.Published b.block

abbrev pub all_printed : List NamedBlock → List Block
all_printed blocks = map printed blocks

-- what is so where the block after these blocks doesn't have a fault. One whose run isn't there has a fault in its heading
abbrev pub IsReachFreeIn : Books → (budget : ℕ) → (before : List NamedBlock) → NamedBlock → Fault → Type 0
IsReachFreeIn books budget before b any =
    (run_after (all_printed before) ≤ length books.runs.runs)
    × IsReachFreeOf books (run_after (all_printed before)) (market_after books (all_printed before)) (also_after books (all_printed before)) budget b any

-- none of these blocks has a fault, each after those before it
abbrev pub AreReachFree : Books → (budget : ℕ) → List NamedBlock → Type 0
AreReachFree books budget blocks = (k : ℕ) (b : NamedBlock) → slice_get blocks k ≡ Some b → (any : Fault) → IsReachFreeIn books budget (take k blocks) b any

-- what is kept stands for blocks of the first runs, none of which has a fault: what a day keeps of them, and how many state
-- the first activation
pub record IsReachChecked (books : Books) (blocks : List NamedBlock) (day : ReachDayCheck) : Type 0 where
  pub free : AreReachFree books day.budget blocks
  pub progress : IsProgress books (all_printed blocks) day.progress
  pub counted : day.first ≡ first_among blocks

-- the totals are the sums over the blocks
pub record AreSums (books : Books) (blocks : List NamedBlock) (operators : List MoneyLine) (providers : List AmountLine) : Type 0 where
  pub operators_are : operators ≡ operator_totals books (all_printed blocks)
  pub providers_are : providers ≡ provider_totals books (all_printed blocks)

-- how a day ends whose blocks these are, none of which has a fault: the block of a run is missing, or the totals are other
-- sums, or neither
abbrev pub EndsAs : Books → List NamedBlock → List MoneyLine → List AmountLine → Ending → Type 0
EndsAs books blocks operators providers (ending.Missing run) = (length blocks < length books.runs.runs) × (run ≡ run_after (all_printed blocks))
EndsAs books blocks operators providers ending.OtherTotals = (length blocks ≡ length books.runs.runs) × (AreSums books blocks operators providers → ⊥)
EndsAs books blocks operators providers (ending.Whole first within) =
    (length blocks ≡ length books.runs.runs) × AreSums books blocks operators providers × (first ≡ first_among blocks) × (first + within ≡ length blocks)
