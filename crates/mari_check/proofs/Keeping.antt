-- A valid publication keeps the offers, each of its published blocks shows its run, and the nets of its totals sum to
-- 0.
use Rattle.std.proofs.Common.{◌≡◌, ◌∙◌, ℕ, ◌≤◌, pos, length, take, Some, refl, ap, arith}
use Rattle.std.specs.Prelude.{slice_get}
use Rattle.std.proofs.lemmas.Option.{slice_get_within}
use Rattle.mari_publish.specs.declared.publication.Block.{Block}
use Rattle.mari_publish.specs.declared.publication.Block.TheVariants as block
use Rattle.mari_publish.specs.declared.publication.FullBlock.{FullBlock}
use Rattle.mari_publish.specs.declared.publication.Publication.{Publication}
use Rattle.mari_remain.specs.declared.books.Books.{Books}
use Rattle.mari_remain.specs.Accepted.{IsAccepted}
use Rattle.mari_progress.specs.After.{also_after, before_of, market_after, run_after}
use Rattle.mari_progress.specs.Keeps.{KeepsOffers, net_sum}
use Rattle.mari_progress.specs.Runs.{IsSoundBlock}
use Rattle.mari_progress.proofs.Keeping as sound
use Rattle.mari_check.specs.Day.{IsValidPublication}
use Rattle.mari_check.specs.Shown.{ShowsRun}
use Rattle.mari_check.proofs.Progressing.{sound-block}
use Rattle.mari_check.proofs.Showing.{shows-run}

module _ (books : Books) (ok : IsAccepted books) (p : Publication) (valid : IsValidPublication books p) where
  few : length p.blocks ≤ length books.runs.runs
  few = omega (arith, valid.every)

  each : (k : ℕ) (b : Block) → slice_get p.blocks k ≡ Some b → IsSoundBlock books (take k p.blocks) b
  each k b e = sound-block books p.budget (take k p.blocks) b (valid.blocks k b e)

  pub keeps-offers : KeepsOffers books p.blocks
  keeps-offers = sound.keeps-offers books ok p.blocks few each

  -- each published block shows its run
  pub shows : (k : ℕ) (b : FullBlock) → slice_get p.blocks k ≡ Some (block.Published b) → ShowsRun books (market_after books (take k p.blocks)) (also_after books (take k p.blocks)) b
  shows k b e =
      let l = slice_get_within p.blocks k (block.Published b) e in
      let before = take k p.blocks in
      shows-run books ok (run_after before) (market_after books before) (also_after books before) (Some p.budget) b
      (record {
        blocks = before_of books before;
        first = sound.up books ok p.blocks few each k (omega (arith, l));
        from_one = omega arith;
        there = sound.after books ok p.blocks few each k l;
        made_of = refl;
      })
      (λ any. (valid.blocks k (block.Published b) e any).1)

  pub totals-balance : net_sum p.operators ≡ pos 0
  totals-balance = ap net_sum valid.totals.operators ∙ sound.totals-balance books ok p.blocks few each
