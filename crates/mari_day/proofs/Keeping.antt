-- Every day part keeps the offers, and its nets sum to 0.
use Rattle.std.proofs.Common.{◌≡◌, ℕ, pos, List, take, Some}
use Rattle.std.specs.Prelude.{slice_get}
use Rattle.mari_publish.specs.declared.publication.Block.{Block}
use Rattle.mari_publish.specs.declared.publication.Block.TheVariants as block
use Rattle.mari_remain.specs.declared.books.Books.{Books}
use Rattle.mari_remain.specs.Accepted.{IsAccepted}
use Rattle.mari_progress.specs.Keeps.{KeepsOffers, net_sum}
use Rattle.mari_progress.specs.Runs.{IsSoundBlock}
use Rattle.mari_progress.specs.Totals.{operator_totals}
use Rattle.mari_progress.proofs.Keeping as sound
use Rattle.mari_day.specs.Day.{IsDayPart}
use Rattle.mari_day.specs.Keeps.{BlockSumsToZero}
use Rattle.mari_day.proofs.Progressing.{sound-block}

pub balanced-in : (books : Books) (b : Block) → sound.BalancesIn books b → BlockSumsToZero b
balanced-in books (block.Published b) h = h.to_zero
balanced-in books (block.Unpublished heading count) h = tt

module _ (books : Books) (ok : IsAccepted books) (budget : ℕ) (blocks : List Block) (part : IsDayPart books budget blocks) where
  each : (k : ℕ) (b : Block) → slice_get blocks k ≡ Some b → IsSoundBlock books (take k blocks) b
  each k b e = sound-block books budget (take k blocks) b (part.each k b e)

  -- no bid above its offer
  pub keeps-offers : KeepsOffers books blocks
  keeps-offers = sound.keeps-offers books ok blocks part.few each

  -- each block's nets sum to 0, and none of its rents is negative
  pub balanced : (k : ℕ) (b : Block) → slice_get blocks k ≡ Some b → BlockSumsToZero b
  balanced k b e = balanced-in books b (sound.balances-in books ok blocks part.few each k b e)

  -- so do those of their sums
  pub totals-balance : net_sum (operator_totals books blocks) ≡ pos 0
  totals-balance = sound.totals-balance books ok blocks part.few each
