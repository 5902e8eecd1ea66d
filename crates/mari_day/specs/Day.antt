-- The day of books within a budget of nodes, a part of it, and their texts.
use Rattle.std.specs.Prelude.{ℕ, ◌≡◌, ◌<◌, ◌≤◌, List, Option, length}
pub use Rattle.mari_io.specs.Taken.{TookPart, then_took}
use Rattle.mari_publish.specs.declared.publication.Block.{Block}
use Rattle.mari_publish.specs.declared.publication.Publication.{Publication}
use Rattle.mari_publish.specs.Lines.{published_in, unpublished_in}
use Rattle.mari_publish.specs.Ranges.{HasText}
use Rattle.mari_publish.specs.Texts.{block_text_of, head_text_of, text_of}
use Rattle.mari_remain.specs.declared.books.Books.{Books}
use Rattle.mari_market.specs.SearchTree.{HasSize}
use Rattle.mari_progress.specs.After.{market_after}
use Rattle.mari_day.specs.Frame.{IsPartBy, IsPartTextBy, StoppedBy, WroteBy, WrotePrefixBy, part_text_by}
use Rattle.mari_day.specs.Published.{IsBlock}
use Rattle.mari_progress.specs.Totals.{HasHead, HasTotals}
use Rattle.mari_day.specs.declared.text.PrintedDay.{PrintedDay}
use Rattle.mari_day.specs.declared.day.DayEnd.{DayEnd}
use Rattle.mari_day.specs.declared.day.DayEnd.TheVariants.{Done, WriteFault, Memory}
use Rattle.mari_day.specs.declared.frame.Stop.{Stop}
use Rattle.mari_day.specs.declared.frame.Stop.TheVariants.{Sink, Memory as NoMemory}

-- the blocks of a day part: those of the first runs in order, each after the blocks printed before it
abbrev pub IsDayPart : Books → (budget : ℕ) → List Block → Type 0
IsDayPart books budget blocks = IsPartBy (length books.runs.runs) (IsBlock books budget) blocks

-- a day: the date, the quarters and the budget, a block for every run, and the sums over the published blocks
pub record IsDay (books : Books) (nodes : ℕ) (p : Publication) : Type 0 where
  pub head : HasHead books p.date p.quarters
  pub budget : p.budget ≡ nodes
  pub part : IsDayPart books nodes p.blocks
  pub every : length p.blocks ≡ length books.runs.runs
  pub totals : HasTotals books p

-- the text of a day part: the head and the blocks
abbrev pub part_text : Books → (budget : ℕ) → List Block → List ℕ
part_text books budget blocks = part_text_by (head_text_of books.date books.quarters budget) block_text_of blocks

-- the text is that of a day part, or of a day
abbrev pub IsPartText : Books → (budget : ℕ) → List ℕ → Type 0
IsPartText books budget text = IsPartTextBy (length books.runs.runs) (IsBlock books budget) (head_text_of books.date books.quarters budget) block_text_of text

pub record IsDayText (books : Books) (budget : ℕ) (text : List ℕ) : Type 0 where
  pub publication : Publication
  pub day : IsDay books budget publication
  pub in_range : HasText publication
  pub spelled : text ≡ text_of publication

-- the text of a day, and how many of its blocks are published, and how many are not
pub record IsPrintedDay (books : Books) (nodes : ℕ) (day : PrintedDay) : Type 0 where
  pub publication : Publication
  pub is_day : IsDay books nodes publication
  pub in_range : HasText publication
  pub text : day.text ≡ text_of publication
  pub published : day.published ≡ published_in publication.blocks
  pub unpublished : day.unpublished ≡ unpublished_in publication.blocks

-- a day was written whole, with these numbers of published blocks and of others
pub record WroteWholeDay (books : Books) (budget published unpublished : ℕ) (before after : Option (List ℕ)) : Type 0 where
  pub text : List ℕ
  pub printed : IsPrintedDay books budget (record { text = text; published = published; unpublished = unpublished })
  pub taken : after ≡ then_took before text

-- a first part of the text of a day part, or of a day, was written
abbrev pub WrotePrefix : Books → (budget : ℕ) → (before after : Option (List ℕ)) → Type 0
WrotePrefix books budget before after = WrotePrefixBy (IsPartText books budget) (IsDayText books budget) before after

-- the head and whole blocks were written
abbrev pub WrotePart : Books → (budget : ℕ) → (before after : Option (List ℕ)) → Type 0
WrotePart books budget before after = WroteBy (IsPartText books budget) before after

-- what was written of a day whose writing stopped before its end
abbrev pub Stopped : Books → (budget : ℕ) → (before after : Option (List ℕ)) → Stop → Type 0
Stopped books budget before after stop = StoppedBy (IsPartText books budget) (IsDayText books budget) before after stop

-- what a sink has taken of a day, by how it ended
abbrev pub EndsDay : Books → (budget : ℕ) → (before after : Option (List ℕ)) → DayEnd → Type 0
EndsDay books budget before after (Done published unpublished) = WroteWholeDay books budget published unpublished before after
EndsDay books budget before after WriteFault = Stopped books budget before after Sink
EndsDay books budget before after Memory = Stopped books budget before after NoMemory

-- whatever blocks are printed, the budget holds the search tree of the market of the next run
abbrev pub HasEnough : Books → (budget : ℕ) → Type 0
HasEnough books budget = (blocks : List Block) → IsDayPart books budget blocks → length blocks < length books.runs.runs
    → (size : ℕ) × HasSize (market_after books blocks).market size × (size ≤ budget)
