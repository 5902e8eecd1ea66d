-- What is kept of a day part stands for one block more after each run.
use Rattle.std.proofs.Common.{ℕ, ◌≤◌, List, [], ◌∷◌, ◌++◌, length, Some, None}
use Rattle.mari_publish.specs.declared.publication.Block.{Block}
use Rattle.mari_publish.specs.declared.publication.Block.TheVariants as block
use Rattle.mari_publish.specs.declared.publication.FullBlock.{FullBlock}
use Rattle.mari_remain.specs.declared.books.Books.{Books}
use Rattle.mari_remain.specs.Accepted.{IsAccepted}
use Rattle.mari_progress.specs.declared.progress.Progress.{Progress}
use Rattle.mari_progress.specs.declared.progress.SettledRun.{SettledRun}
use Rattle.mari_progress.specs.After.{run_after}
use Rattle.mari_progress.specs.Progress.{IsProgress}
use Rattle.mari_progress.specs.Runs.{IsNextRun, IsSoundBlock, IsSoundRun}
use Rattle.mari_progress.proofs.Progressing.{unpublished-too}
use Rattle.mari_day.specs.Progress.{IsSettledIn}
use Rattle.mari_day.specs.Published.{IsBlock, IsPublishedRun}

-- a block of a day is sound
pub sound-run : (books : Books) (budget : ℕ) (before : List Block) (b : FullBlock) → IsPublishedRun books budget before b → IsSoundRun books before b
sound-run books budget before b is = record {
  heading = is.heading;
  names = is.names;
  feasible = is.clearing.first.optimal.admissible.feasible;
  consistent = is.prices.consistent;
  ledger = is.ledger;
}

pub sound-block : (books : Books) (budget : ℕ) (before : List Block) (b : Block) → IsBlock books budget before b → IsSoundBlock books before b
sound-block books budget before (block.Published b) is = sound-run books budget before b is
sound-block books budget before (block.Unpublished heading count) is = is.is_of

module _ (books : Books) (budget : ℕ) (blocks : List Block) (kept : Progress) (progress : IsProgress books blocks kept) (last : run_after blocks ≤ length books.runs.runs) where
  -- a block that adds nothing
  pub none-more : IsAccepted books → (d : Block) → IsBlock books budget blocks d → IsSettledIn books blocks d None → IsProgress books (blocks ++ d ∷ []) kept
  none-more ok (block.Published b) is of = absurd of
  none-more ok (block.Unpublished heading count) is of = unpublished-too books ok blocks kept progress last heading count is.is_of

  -- a block that adds something is published
  pub some-run : (d : Block) → IsBlock books budget blocks d → (settled : SettledRun) → IsSettledIn books blocks d (Some settled) → (b : FullBlock) × IsNextRun books blocks b settled
  some-run (block.Unpublished heading count) is settled of = absurd of
  some-run (block.Published b) is settled of = (b, record { sound = sound-run books budget blocks b is; adds = of })

  pub some-more : (d : Block) → IsBlock books budget blocks d → (settled : SettledRun) → IsSettledIn books blocks d (Some settled) → (after : Progress)
      → ((b : FullBlock) → IsNextRun books blocks b settled → IsProgress books (blocks ++ block.Published b ∷ []) after) → IsProgress books (blocks ++ d ∷ []) after
  some-more (block.Unpublished heading count) is settled of after added = absurd of
  some-more (block.Published b) is settled of after added = added b (record { sound = sound-run books budget blocks b is; adds = of })
