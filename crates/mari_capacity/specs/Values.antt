-- What is reported of the blocks of a day: in each published one, what its borders' limits are worth.
use Rattle.std.specs.Prelude.{ℕ, List, [], ◌∷◌, ◌++◌}
use Rattle.mari_lines.specs.declared.line.Heading.{Heading}
use Rattle.mari_publish.specs.declared.publication.Block.{Block}
use Rattle.mari_publish.specs.declared.publication.Block.TheVariants as block
use Rattle.mari_publish.specs.declared.publication.FullBlock.{FullBlock}
use Rattle.mari_remain.specs.declared.books.Books.{Books}
use Rattle.mari_progress.specs.After.{market_after}
use Rattle.mari_progress.specs.Reported.{activation_of, prices_of}
use Rattle.mari_capacity.specs.declared.worth.BorderWorth.{BorderWorth}
use Rattle.mari_capacity.specs.Lines.{opening_line, run_lines, unpublished_line}
use Rattle.mari_capacity.specs.Worth.{AreWorths}

-- the lines state what limits raised by `more` MW are worth in each of these blocks, in the market after those before it:
-- the first line, and after it the lines of one block after the other
pub data IsValueText (books : Books) (more : ℕ) : List Block → List ℕ → Type 0 where
  Opened : IsValueText books more [] (opening_line more)
  OfPublished : (blocks : List Block) (text : List ℕ) (b : FullBlock) (worths : List BorderWorth) → IsValueText books more blocks text
      → AreWorths (market_after books blocks).market (activation_of b) (prices_of b) more worths
      → IsValueText books more (blocks ++ block.Published b ∷ []) (text ++ run_lines b worths)
  OfUnpublished : (blocks : List Block) (text : List ℕ) (heading : Heading) (count : ℕ)
      → IsValueText books more blocks text
      → IsValueText books more (blocks ++ block.Unpublished heading count ∷ []) (text ++ unpublished_line heading.run)
