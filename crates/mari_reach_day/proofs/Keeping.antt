-- Over every day part no bid runs above its offer, and the nets sum to 0.
use Rattle.std.proofs.Common.{◌≡◌, ◌∙◌, ◌≤◌, ℕ, pos, List, length, take, Option, Some, None, refl, sym, subst, arith}
use Rattle.std.specs.Prelude.{slice_get}
use Rattle.std.specs.Option.{option_map}
use Rattle.std.specs.List.{take-map}
use Rattle.std.proofs.lemmas.List.{length-map}
use Rattle.std.proofs.lemmas.Option.{none-some, same_Some, slice_get-map}
use Rattle.mari_publish.specs.declared.publication.Block.{Block}
use Rattle.mari_remain.specs.declared.books.Books.{Books}
use Rattle.mari_remain.specs.Accepted.{IsAccepted}
use Rattle.mari_progress.specs.Keeps.{KeepsOffers, net_sum}
use Rattle.mari_progress.specs.Runs.{IsSoundBlock}
use Rattle.mari_progress.specs.Totals.{operator_totals}
use Rattle.mari_progress.proofs.Keeping as keeping
use Rattle.mari_day.specs.Keeps.{BlockSumsToZero}
use Rattle.mari_day.proofs.Keeping.{balanced-in}
use Rattle.mari_reach_day.specs.declared.block.ReachBlock.{ReachBlock}
use Rattle.mari_reach_day.specs.Reach.{IsReachPart, block_of, blocks_of}
use Rattle.mari_reach_day.proofs.Progressing.{sound}

module _ (books : Books) (ok : IsAccepted books) (budget : ℕ) (blocks : List ReachBlock) (part : IsReachPart books budget blocks) where
  pub few : length (blocks_of blocks) ≤ length books.runs.runs
  few = omega (arith, part.few, length-map blocks block_of)

  pub each : (k : ℕ) (b : Block) → slice_get (blocks_of blocks) k ≡ Some b → IsSoundBlock books (take k (blocks_of blocks)) b
  each k b e = by (slice_get blocks k) refl (sym (slice_get-map block_of blocks k) ∙ e)
    where
      by : (o : Option ReachBlock) → slice_get blocks k ≡ o → option_map block_of o ≡ Some b → IsSoundBlock books (take k (blocks_of blocks)) b
      by None f g = absurd (none-some b g)
      by (Some r) f g =
          let own : IsSoundBlock books (take k (blocks_of blocks)) (block_of r) =
          subst (λ (bs : List Block). IsSoundBlock books bs (block_of r)) (sym (take-map block_of k blocks)) (sound books budget (take k blocks) r (part.each k r f)) in
          subst (IsSoundBlock books (take k (blocks_of blocks))) (same_Some (block_of r) b g) own

  -- no bid above its offer
  pub keeps_offers : KeepsOffers books (blocks_of blocks)
  keeps_offers = keeping.keeps-offers books ok (blocks_of blocks) few each

  -- each block's nets sum to 0, and none of its rents is negative
  pub balanced : (k : ℕ) (b : Block) → slice_get (blocks_of blocks) k ≡ Some b → BlockSumsToZero b
  balanced k b e = balanced-in books b (keeping.balances-in books ok (blocks_of blocks) few each k b e)

  -- so do those of their sums
  pub totals_balance : net_sum (operator_totals books (blocks_of blocks)) ≡ pos 0
  totals_balance = keeping.totals-balance books ok (blocks_of blocks) few each
