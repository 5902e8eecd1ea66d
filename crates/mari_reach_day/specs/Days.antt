-- What a sink takes of a day of the second form.
use Rattle.std.specs.Prelude.{◌≡◌, ℕ, List, Option, length}
use Rattle.std.specs.List.{All}
use Rattle.mari_day.specs.Frame.{IsPartTextBy, StoppedBy, WroteBy, WrotePrefixBy}
use Rattle.mari_day.specs.declared.frame.Stop.{Stop}
use Rattle.mari_day.specs.declared.frame.Stop.TheVariants.{Sink, Memory as NoMemory}
use Rattle.mari_publish.specs.Ranges.{SumsFit}
use Rattle.mari_remain.specs.declared.books.Books.{Books}
use Rattle.mari_progress.specs.Totals.{operator_totals, provider_totals}
use Rattle.mari_reach_day.specs.declared.block.ReachBlock.{ReachBlock}
use Rattle.mari_reach_day.specs.declared.writing.ReachEnd.{ReachEnd}
use Rattle.mari_reach_day.specs.declared.writing.ReachEnd.TheVariants.{Done, WriteFault, Memory}
use Rattle.mari_reach_day.specs.Lines.{reach_block_text, reach_head, reach_text}
use Rattle.mari_reach_day.specs.Ranges.{ReachFits}
use Rattle.mari_reach_day.specs.Reach.{IsReachBlock, IsReachDay, blocks_of, first_in, within_in}

-- the text is that of a day part: of its first line and the blocks of the first runs
abbrev pub IsReachPartText : Books → (budget : ℕ) → List ℕ → Type 0
IsReachPartText books budget text =
    IsPartTextBy (length books.runs.runs) (IsReachBlock books budget) (reach_head books.date books.quarters budget) (reach_block_text books) text

-- the text is that of a day, whose numbers are in range, so many runs of which have the first activation, and so many one
-- within a gap
pub record IsReachDayText (books : Books) (budget first within : ℕ) (text : List ℕ) : Type 0 where
  pub blocks : List ReachBlock
  pub day : IsReachDay books budget blocks
  pub fits : All ReachFits blocks
  pub totals : SumsFit (operator_totals books (blocks_of blocks)) (provider_totals books (blocks_of blocks))
  pub counted : first ≡ first_in blocks
  pub others : within ≡ within_in blocks
  pub spelled : text ≡ reach_text books budget blocks

-- the text is that of a day
abbrev pub IsWholeReachText : Books → (budget : ℕ) → List ℕ → Type 0
IsWholeReachText books budget text = (first : ℕ) × (within : ℕ) × IsReachDayText books budget first within text

-- a day was written whole
abbrev pub WroteReachDay : Books → (budget first within : ℕ) → (before after : Option (List ℕ)) → Type 0
WroteReachDay books budget first within before after = WroteBy (IsReachDayText books budget first within) before after

-- a first part of the text of a day part, or of a day, was written
abbrev pub WroteReachPrefix : Books → (budget : ℕ) → (before after : Option (List ℕ)) → Type 0
WroteReachPrefix books budget before after = WrotePrefixBy (IsReachPartText books budget) (IsWholeReachText books budget) before after

-- the first line and whole blocks were written
abbrev pub WroteReachPart : Books → (budget : ℕ) → (before after : Option (List ℕ)) → Type 0
WroteReachPart books budget before after = WroteBy (IsReachPartText books budget) before after

-- what was written of a day whose writing stopped before its end
abbrev pub ReachStopped : Books → (budget : ℕ) → (before after : Option (List ℕ)) → Stop → Type 0
ReachStopped books budget before after stop = StoppedBy (IsReachPartText books budget) (IsWholeReachText books budget) before after stop

-- what a sink has taken of a day, by how it ended
abbrev pub EndsReach : Books → (budget : ℕ) → (before after : Option (List ℕ)) → ReachEnd → Type 0
EndsReach books budget before after (Done first within) = WroteReachDay books budget first within before after
EndsReach books budget before after WriteFault = ReachStopped books budget before after Sink
EndsReach books budget before after Memory = ReachStopped books budget before after NoMemory
