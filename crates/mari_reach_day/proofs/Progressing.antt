-- What is kept of a day part stands for one block more after each run.
use Rattle.std.proofs.Common.{◌≡◌, ◌∙◌, ℕ, ◌+◌, List, [], ◌∷◌, ◌++◌, length, Some, ap, sym, subst}
use Rattle.std.proofs.lemmas.List.{length-map, map-append}
use Rattle.mari_publish.specs.declared.publication.Block.{Block}
use Rattle.mari_publish.specs.declared.publication.Block.TheVariants as block
use Rattle.mari_remain.specs.declared.books.Books.{Books}
use Rattle.mari_progress.specs.declared.progress.Progress.{Progress}
use Rattle.mari_progress.specs.declared.progress.SettledRun.{SettledRun}
use Rattle.mari_progress.specs.After.{market_after, run_after}
use Rattle.mari_progress.specs.Progress.{IsProgress}
use Rattle.mari_progress.specs.Runs.{IsNextRun, IsSoundRun}
use Rattle.mari_day.specs.Progress.{IsSettledIn}
use Rattle.mari_reach_day.specs.declared.block.ReachBlock.{ReachBlock}
use Rattle.mari_reach_day.specs.Reach.{IsReachBlock, block_of, blocks_of, found_in}
use Rattle.mari_reach_day.proofs.Blocks.{admissible}

-- a block of a day is sound
pub sound : (books : Books) (budget : ℕ) (before : List ReachBlock) (r : ReachBlock) → IsReachBlock books budget before r → IsSoundRun books (blocks_of before) r.block
sound books budget before r is = record {
  heading = is.heading;
  names = is.names;
  feasible = (admissible (market_after books (blocks_of before)).market budget r.claim (found_in r) is.answer).feasible;
  consistent = is.prices.consistent;
  ledger = is.ledger;
}

-- the blocks with one more, as the later runs read them
pub blocks_more : (blocks : List ReachBlock) (r : ReachBlock) → blocks_of (blocks ++ r ∷ []) ≡ blocks_of blocks ++ block.Published r.block ∷ []
blocks_more blocks r = map-append block_of blocks (r ∷ [])

-- the run after these blocks, as the later runs read them
pub run_of : (blocks : List ReachBlock) (run : ℕ) → run ≡ length blocks + 1 → run ≡ run_after (blocks_of blocks)
run_of blocks run is = is ∙ ap (λ n. n + 1) (sym (length-map blocks block_of))

-- the block of the next run, with what it adds
pub next_run : (books : Books) (budget : ℕ) (blocks : List ReachBlock) (r : ReachBlock) → IsReachBlock books budget blocks r → (settled : SettledRun)
    → IsSettledIn books (blocks_of blocks) (block_of r) (Some settled) → IsNextRun books (blocks_of blocks) r.block settled
next_run books budget blocks r is settled of = record { sound = sound books budget blocks r is; adds = of }

-- what is kept with one block more
pub one_more : (books : Books) (blocks : List ReachBlock) (r : ReachBlock) (after : Progress) → IsProgress books (blocks_of blocks ++ block.Published r.block ∷ []) after
    → IsProgress books (blocks_of (blocks ++ r ∷ [])) after
one_more books blocks r after is = subst (λ (bs : List Block). IsProgress books bs after) (sym (blocks_more blocks r)) is
