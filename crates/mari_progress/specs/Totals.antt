-- What operators and providers have over the published blocks of a day; a day's head and its totals.
use Rattle.std.specs.Prelude.{◌≡◌, ℕ, ℤ, pos, ◌+ℤ◌, List, [], ◌∷◌, ◌++◌, fold, length, map, replicate}
use Rattle.std.specs.List.{range_with_len}
use Rattle.mari_lines.specs.declared.line.AmountLine.{AmountLine}
use Rattle.mari_publish.specs.declared.publication.Block.{Block}
use Rattle.mari_publish.specs.declared.publication.Block.TheVariants as block
use Rattle.mari_lines.specs.declared.line.MoneyLine.{MoneyLine}
use Rattle.mari_publish.specs.declared.publication.Publication.{Publication}
use Rattle.mari_remain.specs.declared.books.Books.{Books}
use Rattle.mari_settle.specs.Lines.{map_along, no_line, together}
use Rattle.mari_progress.specs.After.{also_after, market_after}
use Rattle.mari_progress.specs.Money.{amount_of, money_lines_of}
use Rattle.mari_rows.specs.Names.{name_at}

-- two lines of one operator together
abbrev pub money_together : MoneyLine → MoneyLine → MoneyLine
money_together a b = record { name = a.name; payment = together a.payment b.payment; rent = together a.rent b.rent; net = together a.net b.net }

-- with the lines of a block, which has none unless it is published
abbrev pub with_operators : List MoneyLine → Block → List MoneyLine
with_operators lines (block.Published b) = map_along money_together lines b.operators
with_operators lines (block.Unpublished heading count) = lines

-- each operator's line over the blocks
abbrev pub operator_totals : Books → List Block → List MoneyLine
operator_totals books blocks = fold with_operators (money_lines_of books.zones.operators (replicate (length books.zones.operators) no_line)) blocks

-- what a provider gets in the block after these, which is nothing unless it is published
abbrev pub amount_in : Books → (before : List Block) → Block → (provider : ℕ) → ℤ
amount_in books before (block.Published b) provider = amount_of books (market_after books before) (also_after books before) b provider
amount_in books before (block.Unpublished heading count) provider = pos 0

-- and in all blocks that stand after these
abbrev pub amount_over : Books → (before blocks : List Block) → (provider : ℕ) → ℤ
amount_over books before [] provider = pos 0
amount_over books before (b ∷ bs) provider = amount_in books before b provider +ℤ amount_over books (before ++ b ∷ []) bs provider

-- a provider's line over the blocks: its name and the sum of its amounts
abbrev pub provider_total : Books → List Block → ℕ → AmountLine
provider_total books blocks provider = record { name = name_at books.bids.providers provider; amount = record { 0 = amount_over books [] blocks provider } }

abbrev pub provider_totals : Books → List Block → List AmountLine
provider_totals books blocks = map (provider_total books blocks) (range_with_len 0 (length books.bids.providers))

-- the date and the quarters that a first line states are those of the books
pub record HasHead (books : Books) (date : List ℕ) (quarters : ℕ) : Type 0 where
  pub date_is : date ≡ books.date
  pub quarters_is : quarters ≡ books.quarters

-- the totals are the sums over the published blocks
pub record HasTotals (books : Books) (p : Publication) : Type 0 where
  pub operators : p.operators ≡ operator_totals books p.blocks
  pub providers : p.providers ≡ provider_totals books p.blocks
