-- What holds of every day, whoever printed it: no bid runs above its offer, the operators' nets sum to 0, and no rent
-- is negative.
use Rattle.std.specs.Prelude.{ℕ, ℤ, pos, ◌≡◌, ◌≤◌, ◌≤ℤ◌, ◌⊎◌, true, List, Some, slice_get, take}
use Rattle.std.specs.List.{All}
use Rattle.mari_units.specs.declared.numbers.Quarters.{Quarters}
use Rattle.mari_bids.specs.Bids.{bid_numbered}
use Rattle.mari_links.specs.Links.{has_gate}
use Rattle.mari_lines.specs.declared.line.MoneyLine.{MoneyLine}
use Rattle.mari_market.specs.Sums.{int_sum}
use Rattle.mari_publish.specs.declared.publication.Block.{Block}
use Rattle.mari_publish.specs.declared.publication.FullBlock.{FullBlock}
use Rattle.mari_remain.specs.Blocks.{mw_in_block, mw_of}
use Rattle.mari_remain.specs.declared.books.Books.{Books}
use Rattle.mari_progress.specs.After.{before_of, past_of}
use Rattle.mari_progress.specs.Reported.{rents_reported}

-- over these blocks each bid runs at most the greatest quantity of its offer, and a bid with a gate runs in at most one
-- block: where it ran before a block, it doesn't run in it
pub record KeepsOffers (books : Books) (blocks : List Block) : Type 0 where
  pub offers : (bid : ℕ) → mw_of (before_of books blocks) bid ≤ (bid_numbered books.bids.bids bid).greatest
  pub once : (k : ℕ) (b : Block) → slice_get blocks k ≡ Some b → (bid : ℕ) → has_gate books.links bid ≡ true
      → (mw_of (before_of books (take k blocks)) bid ≡ 0) ⊎ (mw_in_block bid (past_of books b) ≡ 0)

-- the sum of the operators' nets
abbrev pub net_sum : List MoneyLine → ℤ
net_sum lines = int_sum (λ (l : MoneyLine). l.net.0) lines

-- the operators' nets of a published block sum to 0, and none of its rents is negative
pub record SumsToZero (b : FullBlock) : Type 0 where
  pub nets : net_sum b.operators ≡ pos 0
  pub rents : All (λ (rent : Quarters). pos 0 ≤ℤ rent.0) (rents_reported b)
