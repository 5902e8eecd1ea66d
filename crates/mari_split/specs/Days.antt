-- What a sink takes of a day whose runs are cleared island by island.
use Rattle.std.specs.Prelude.{◌≡◌, ℕ, List, Option, length}
use Rattle.mari_day.specs.Frame.{IsPartTextBy, StoppedBy, WroteBy, WrotePrefixBy}
use Rattle.mari_day.specs.declared.day.DayEnd.{DayEnd}
use Rattle.mari_day.specs.declared.day.DayEnd.TheVariants.{Done, WriteFault, Memory}
use Rattle.mari_day.specs.declared.frame.Stop.{Stop}
use Rattle.mari_day.specs.declared.frame.Stop.TheVariants.{Sink, Memory as NoMemory}
use Rattle.mari_publish.specs.Lines.{published_in, unpublished_in}
use Rattle.mari_remain.specs.declared.books.Books.{Books}
use Rattle.mari_split.specs.declared.split.SplitBlock.{SplitBlock}
use Rattle.mari_split.specs.Lines.{split_block_text, split_head, split_text}
use Rattle.mari_split.specs.Split.{IsSplitBlock, IsSplitDay, blocks_of}

-- the text is that of a day part: of its first line and the blocks of the first runs
abbrev pub IsSplitPartText : Books → (budget : ℕ) → List ℕ → Type 0
IsSplitPartText books budget text =
    IsPartTextBy (length books.runs.runs) (IsSplitBlock books budget) (split_head books.date books.quarters budget) (split_block_text books.zones.zones) text

-- the text is that of a day, with these numbers of published runs and of others
pub record IsSplitDayText (books : Books) (budget published unpublished : ℕ) (text : List ℕ) : Type 0 where
  pub blocks : List SplitBlock
  pub day : IsSplitDay books budget blocks
  pub counted : published ≡ published_in (blocks_of blocks)
  pub others : unpublished ≡ unpublished_in (blocks_of blocks)
  pub spelled : text ≡ split_text books budget blocks

-- the text is that of a day
abbrev pub IsWholeSplitText : Books → (budget : ℕ) → List ℕ → Type 0
IsWholeSplitText books budget text = (published : ℕ) × (unpublished : ℕ) × IsSplitDayText books budget published unpublished text

-- a day was written whole
abbrev pub WroteSplitDay : Books → (budget published unpublished : ℕ) → (before after : Option (List ℕ)) → Type 0
WroteSplitDay books budget published unpublished before after = WroteBy (IsSplitDayText books budget published unpublished) before after

-- a first part of the text of a day part, or of a day, was written
abbrev pub WroteSplitPrefix : Books → (budget : ℕ) → (before after : Option (List ℕ)) → Type 0
WroteSplitPrefix books budget before after = WrotePrefixBy (IsSplitPartText books budget) (IsWholeSplitText books budget) before after

-- the first line and whole blocks were written
abbrev pub WroteSplitPart : Books → (budget : ℕ) → (before after : Option (List ℕ)) → Type 0
WroteSplitPart books budget before after = WroteBy (IsSplitPartText books budget) before after

-- what was written of a day whose writing stopped before its end
abbrev pub SplitStopped : Books → (budget : ℕ) → (before after : Option (List ℕ)) → Stop → Type 0
SplitStopped books budget before after stop = StoppedBy (IsSplitPartText books budget) (IsWholeSplitText books budget) before after stop

-- what a sink has taken of a day, by how it ended
abbrev pub EndsSplit : Books → (budget : ℕ) → (before after : Option (List ℕ)) → DayEnd → Type 0
EndsSplit books budget before after (Done published unpublished) = WroteSplitDay books budget published unpublished before after
EndsSplit books budget before after WriteFault = SplitStopped books budget before after Sink
EndsSplit books budget before after Memory = SplitStopped books budget before after NoMemory
