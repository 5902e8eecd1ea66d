-- What is kept of a day part stands for one block more after each run.
use Rattle.std.proofs.Common.{◌≡◌, ◌∙◌, ℕ, ◌+◌, ◌≤◌, List, [], ◌∷◌, ◌++◌, length, Some, None, ap, sym, subst, arith}
use Rattle.std.proofs.lemmas.List.{length-map, map-append}
use Rattle.mari_publish.specs.declared.publication.Block.{Block}
use Rattle.mari_publish.specs.declared.publication.Block.TheVariants as block
use Rattle.mari_publish.specs.declared.publication.FullBlock.{FullBlock}
use Rattle.mari_remain.specs.declared.books.Books.{Books}
use Rattle.mari_remain.specs.Accepted.{IsAccepted}
use Rattle.mari_progress.specs.declared.progress.Progress.{Progress}
use Rattle.mari_progress.specs.declared.progress.SettledRun.{SettledRun}
use Rattle.mari_progress.specs.After.{run_after}
use Rattle.mari_progress.specs.Progress.{IsProgress}
use Rattle.mari_progress.specs.Runs.{IsNextRun, IsSoundRun}
use Rattle.mari_progress.proofs.Progressing.{unpublished-too}
use Rattle.mari_split.specs.declared.split.SplitBlock.{SplitBlock}
use Rattle.mari_split.specs.declared.split.SplitBlock.TheVariants as split
use Rattle.mari_split.specs.declared.split.SplitRun.{SplitRun}
use Rattle.mari_split.specs.Split.{IsSplitBlock, IsSplitRun, block_of, blocks_of}
use Rattle.mari_split.specs.Steps.{AddsToDay}

-- a published run of a day is sound
pub sound : (books : Books) (budget : ℕ) (before : List SplitBlock) (r : SplitRun) → IsSplitRun books budget before r → IsSoundRun books (blocks_of before) r.block
sound books budget before r is = record {
  heading = is.heading;
  names = is.names;
  feasible = is.first.first.optimal.admissible.feasible;
  consistent = is.prices.consistent;
  ledger = is.ledger;
}

-- the blocks with one more, as the later runs read them
blocks_more : (blocks : List SplitBlock) (b : SplitBlock) → blocks_of (blocks ++ b ∷ []) ≡ blocks_of blocks ++ block_of b ∷ []
blocks_more blocks b = map-append block_of blocks (b ∷ [])

-- the run after these blocks, as the later runs read them
pub run_of : (blocks : List SplitBlock) (run : ℕ) → run ≡ length blocks + 1 → run ≡ run_after (blocks_of blocks)
run_of blocks run is = is ∙ ap (λ n. n + 1) (sym (length-map blocks block_of))

module _ (books : Books) (budget : ℕ) (blocks : List SplitBlock) (kept : Progress) (progress : IsProgress books (blocks_of blocks) kept) (last : length blocks + 1 ≤ length books.runs.runs) where
  -- a block that adds nothing
  pub none_more : IsAccepted books → (b : SplitBlock) → IsSplitBlock books budget blocks b → AddsToDay books blocks b None → IsProgress books (blocks_of (blocks ++ b ∷ [])) kept
  none_more ok (split.Published r) is of = absurd of
  none_more ok (split.Unpublished heading island count) is of =
      subst (λ (bs : List Block). IsProgress books bs kept) (sym (blocks_more blocks (split.Unpublished heading island count)))
      (unpublished-too books ok (blocks_of blocks) kept progress (omega (arith, last, length-map blocks block_of)) heading count is.is_of)

  -- a block that adds something is published
  pub some_run : (d : SplitBlock) → IsSplitBlock books budget blocks d → (settled : SettledRun)
      → AddsToDay books blocks d (Some settled) → (b : FullBlock) × IsNextRun books (blocks_of blocks) b settled
  some_run (split.Unpublished heading island count) is settled of = absurd of
  some_run (split.Published r) is settled of = (r.block, record { sound = sound books budget blocks r is; adds = of })

  pub some_more : (d : SplitBlock) → IsSplitBlock books budget blocks d → (settled : SettledRun) → AddsToDay books blocks d (Some settled) → (after : Progress)
      → ((b : FullBlock) → IsNextRun books (blocks_of blocks) b settled → IsProgress books (blocks_of blocks ++ block.Published b ∷ []) after) → IsProgress books (blocks_of (blocks ++ d ∷ [])) after
  some_more (split.Unpublished heading island count) is settled of after added = absurd of
  some_more (split.Published r) is settled of after added =
      subst (λ (bs : List Block). IsProgress books bs after) (sym (blocks_more blocks (split.Published r)))
      (added r.block (record { sound = sound books budget blocks r is; adds = of }))
