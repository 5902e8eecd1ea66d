-- What is kept of a day stands for one block more after each run.
use Rattle.std.proofs.Common.{◌≡◌, ◌∙◌, ℕ, ◌+◌, ◌≤◌, List, [], ◌∷◌, ◌++◌, length, sym, ap, subst}
use Rattle.mari_lines.specs.declared.line.Heading.{Heading}
use Rattle.mari_publish.specs.declared.publication.Block.{Block}
use Rattle.mari_publish.specs.declared.publication.Block.TheVariants as block
use Rattle.mari_publish.specs.declared.publication.FullBlock.{FullBlock}
use Rattle.mari_remain.specs.declared.books.Books.{Books}
use Rattle.mari_remain.specs.Accepted.{IsAccepted}
use Rattle.mari_progress.specs.After.{run_after}
use Rattle.mari_progress.specs.Progress.{IsProgress}
use Rattle.mari_progress.specs.Runs.{IsSoundBlock, IsSoundRun}
use Rattle.mari_progress.proofs.Counts.{unpublished-more, unpublished-same}
use Rattle.mari_progress.proofs.Lists.{each-more}
use Rattle.mari_progress.proofs.Progressing.{unpublished-too}
use Rattle.mari_check.specs.declared.day.DayCheck.{DayCheck}
use Rattle.mari_check.specs.declared.fault.Fault.{Fault}
use Rattle.mari_check.specs.declared.fault.Fault.TheVariants as fault
use Rattle.mari_check.specs.Checked.{IsChecked}
use Rattle.mari_check.specs.Day.{AreFree, IsFreeIn}

abbrev FreeBlock : Books → (budget : ℕ) → (before : List Block) → Block → Type 0
FreeBlock books budget before b = (any : Fault) → IsFreeIn books budget before b any

-- one block more without a fault
free-more : (books : Books) (budget : ℕ) (blocks : List Block) (b : Block) → AreFree books budget blocks → FreeBlock books budget blocks b → AreFree books budget (blocks ++ b ∷ [])
free-more books budget blocks b free is = each-more (FreeBlock books budget) blocks b free is

-- a block without a fault is sound
pub sound-run : (books : Books) (budget : ℕ) (before : List Block) (b : FullBlock) → FreeBlock books budget before (block.Published b) → IsSoundRun books before b
sound-run books budget before b free = record {
  heading = (free fault.Heading).1;
  names = (free fault.Lines).1;
  feasible = (free fault.Infeasible).1;
  consistent = (free fault.Inconsistent).1;
  ledger = (free fault.Ledger).1;
}

pub sound-block : (books : Books) (budget : ℕ) (before : List Block) (b : Block) → FreeBlock books budget before b → IsSoundBlock books before b
sound-block books budget before (block.Published b) free = sound-run books budget before b free
sound-block books budget before (block.Unpublished heading count) free = (free fault.Heading).is_of

module _ (books : Books) (blocks : List Block) (kept : DayCheck) (checked : IsChecked books blocks kept) where
  -- an unpublished block, which is only counted
  pub unpublished-counted : IsAccepted books → run_after blocks ≤ length books.runs.runs → (heading : Heading) (count : ℕ) → FreeBlock books kept.budget blocks (block.Unpublished heading count)
      → (after : DayCheck) → after ≡ record kept { unpublished = kept.unpublished + 1 } → IsChecked books (blocks ++ block.Unpublished heading count ∷ []) after
  unpublished-counted ok last heading count free after made =
      let b : Block = block.Unpublished heading count in
      let P : DayCheck → Type 0 = λ d. IsChecked books (blocks ++ b ∷ []) d in
      subst P (sym made) (record {
        free = free-more books kept.budget blocks b checked.free free;
        progress = unpublished-too books ok blocks kept.progress checked.progress last heading count (free fault.Heading).is_of;
        unpublished = ap (λ n. n + 1) checked.unpublished ∙ sym (unpublished-more blocks heading count);
      })

  -- a published block, which is added to what a day keeps
  pub published-added : (b : FullBlock) → FreeBlock books kept.budget blocks (block.Published b) → (after : DayCheck) → IsProgress books (blocks ++ block.Published b ∷ []) after.progress
      → after.unpublished ≡ kept.unpublished → after.budget ≡ kept.budget → IsChecked books (blocks ++ block.Published b ∷ []) after
  published-added b free after progress others same =
      let p : Block = block.Published b in
      let P : ℕ → Type 0 = λ n. AreFree books n (blocks ++ p ∷ []) in
      record {
        free = subst P (sym same) (free-more books kept.budget blocks p checked.free free);
        progress = progress;
        unpublished = others ∙ checked.unpublished ∙ sym (unpublished-same blocks b);
      }
