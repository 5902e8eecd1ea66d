-- Over every day part no bid runs above its offer, and no rent is negative.
use Rattle.std.proofs.Common.{◌≡◌, ◌∙◌, ◌≤◌, ℕ, List, length, take, Option, Some, None, refl, sym, subst, arith}
use Rattle.std.specs.Prelude.{slice_get}
use Rattle.std.specs.Option.{option_map}
use Rattle.std.specs.List.{take-map}
use Rattle.std.proofs.lemmas.List.{length-map}
use Rattle.std.proofs.lemmas.Option.{none-some, same_Some, slice_get-map}
use Rattle.mari_publish.specs.declared.publication.Block.{Block}
use Rattle.mari_remain.specs.declared.books.Books.{Books}
use Rattle.mari_remain.specs.Accepted.{IsAccepted}
use Rattle.mari_progress.specs.Keeps.{KeepsOffers}
use Rattle.mari_progress.specs.Runs.{IsSoundBlock}
use Rattle.mari_progress.proofs.Keeping as keeping
use Rattle.mari_day.specs.Keeps.{BlockSumsToZero}
use Rattle.mari_day.proofs.Keeping.{balanced-in}
use Rattle.mari_split.specs.declared.split.SplitBlock.{SplitBlock}
use Rattle.mari_split.specs.declared.split.SplitBlock.TheVariants as split
use Rattle.mari_split.specs.Split.{IsSplitBlock, IsSplitPart, block_of, blocks_of}
use Rattle.mari_split.proofs.Progressing.{sound}

sound_block : (books : Books) (budget : ℕ) (before : List SplitBlock) (b : SplitBlock) → IsSplitBlock books budget before b → IsSoundBlock books (blocks_of before) (block_of b)
sound_block books budget before (split.Published r) is = sound books budget before r is
sound_block books budget before (split.Unpublished heading island count) is = is.is_of

module _ (books : Books) (ok : IsAccepted books) (budget : ℕ) (blocks : List SplitBlock) (part : IsSplitPart books budget blocks) where
  few : length (blocks_of blocks) ≤ length books.runs.runs
  few = omega (arith, part.few, length-map blocks block_of)

  each : (k : ℕ) (b : Block) → slice_get (blocks_of blocks) k ≡ Some b → IsSoundBlock books (take k (blocks_of blocks)) b
  each k b e = by (slice_get blocks k) refl (sym (slice_get-map block_of blocks k) ∙ e)
    where
      by : (o : Option SplitBlock) → slice_get blocks k ≡ o → option_map block_of o ≡ Some b → IsSoundBlock books (take k (blocks_of blocks)) b
      by None f g = absurd (none-some b g)
      by (Some s) f g =
          let own : IsSoundBlock books (take k (blocks_of blocks)) (block_of s) =
          subst (λ (bs : List Block). IsSoundBlock books bs (block_of s)) (sym (take-map block_of k blocks)) (sound_block books budget (take k blocks) s (part.each k s f)) in
          subst (IsSoundBlock books (take k (blocks_of blocks))) (same_Some (block_of s) b g) own

  -- no bid above its offer
  pub keeps_offers : KeepsOffers books (blocks_of blocks)
  keeps_offers = keeping.keeps-offers books ok (blocks_of blocks) few each

  -- each block's nets sum to 0, and none of its rents is negative
  pub balanced : (k : ℕ) (b : Block) → slice_get (blocks_of blocks) k ≡ Some b → BlockSumsToZero b
  balanced k b e = balanced-in books b (keeping.balances-in books ok (blocks_of blocks) few each k b e)
