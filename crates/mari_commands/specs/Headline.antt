-- The headline: what is promised of each day that the program prints. Read this file first; it stands on `AreCleared`
-- in `Commands`, and on `Day` and `Published` of `mari_day`, which stand on the definitions of `mari_market`
-- (`Optimal`, `Clearing`, `Interval`) and `mari_settle` (`Ledger`).
use Rattle.std.specs.Prelude.{ℕ, pos, ◌≡◌, ◌==◌, Bool, List, Option, Some, slice_get}
use Rattle.mari_io.specs.Outside.{Pages}
use Rattle.mari_remain.specs.declared.books.Books.{Books}
use Rattle.mari_publish.specs.declared.publication.Block.{Block}
use Rattle.mari_publish.specs.declared.publication.Publication.{Publication}
use Rattle.mari_publish.specs.Lines.{unpublished_in}
use Rattle.mari_publish.specs.Ranges.{HasText}
use Rattle.mari_publish.specs.Texts.{text_of}
use Rattle.mari_check.specs.Day.{IsValidPublication}
use Rattle.mari_day.specs.Day.{HasEnough, IsDay, then_took}
use Rattle.mari_day.specs.Keeps.{BlockSumsToZero}
use Rattle.mari_progress.specs.Keeps.{KeepsOffers, net_sum}
use Rattle.mari_words.specs.Asked.{Asked}
use Rattle.mari_commands.specs.Commands.{AreCleared, HasBooksToClear}

-- the text of a day of the folder that the words ask to clear: its pages are held and give books, and the text is that
-- of their day within the budget of nodes, with a block for each run, in order. Each published run has a first
-- activation of its market after the blocks that are printed before, with its welfare, the prices of its zones, its
-- ledger, and a certificate tree that holds for its gate word; a run that isn't published has a search tree larger than
-- the budget. Over the day no bid runs above its offer, and a gated one in at most one block; the operators' nets sum
-- to 0 in each block and in the totals, and no rent is negative. The checker accepts the day. All of its runs are
-- published, or not
pub record HasDay (asked : Option Asked) (pages : Pages) (whole : Bool) (text : List ℕ) : Type 0 where
  pub books : Books
  pub nodes : ℕ
  pub cleared : AreCleared asked pages books nodes
  pub publication : Publication
  pub is_day : IsDay books nodes publication
  pub in_range : HasText publication
  pub offers : KeepsOffers books publication.blocks
  pub sums : (k : ℕ) (b : Block) → slice_get publication.blocks k ≡ Some b → BlockSumsToZero b
  pub totals : net_sum publication.operators ≡ pos 0
  pub valid : IsValidPublication books publication
  pub printed : text ≡ text_of publication
  pub published : (unpublished_in publication.blocks == 0) ≡ whole

-- the sink has taken the text of such a day
pub record WroteDay (asked : Option Asked) (pages : Pages) (whole : Bool) (before after : Option (List ℕ)) : Type 0 where
  pub text : List ℕ
  pub day : HasDay asked pages whole text
  pub taken : after ≡ then_took before text

-- the budget holds the search tree of each run's market, whatever blocks are printed before it
pub record HasBudget (asked : Option Asked) (pages : Pages) : Type 0 where
  pub clearable : HasBooksToClear asked pages
  pub enough : HasEnough clearable.books clearable.nodes
