-- What each answer of the program says.
use Rattle.std.specs.Prelude.{ℕ, ◌≡◌, ◌⊎◌, true, false, List, ◌++◌, Option, Some, None}
use Rattle.mari_units.specs.declared.faults.Refusal.{Refusal}
use Rattle.mari_io.specs.Outside.{Pages, page_of}
use Rattle.mari_io.specs.Taken.{TookPart, then_took}
use Rattle.mari_day.specs.Day.{WrotePart, WrotePrefix}
use Rattle.mari_day.specs.Files.{Gap}
use Rattle.mari_day.specs.Files.Gap.{NotHeld, OverLimit}
use Rattle.mari_day.specs.declared.files.TheConstants.{PUBLICATION}
use Rattle.mari_remain.specs.declared.books.Books.{Books}
use Rattle.mari_words.specs.Asked.{Asked}
use Rattle.mari_feed.specs.Streams.{TookAll, TookFeed, TookFirst, TookSome}
use Rattle.mari_io.specs.declared.shelf.Fetch.TheVariants as fetch
use Rattle.mari_publish.specs.declared.fault.TextFault.{TextFault}
use Rattle.mari_capacity.specs.declared.ending.ValueEnd.{ValueEnd}
use Rattle.mari_capacity.specs.declared.ending.ValueEnd.TheVariants as values
use Rattle.mari_capacity.specs.Streams.{IsPageEnd}
use Rattle.mari_words.specs.Asked.Asked.{Check, Generate, Feed}
use Rattle.mari_answers.specs.declared.status.Status.{Status}
use Rattle.mari_answers.specs.declared.status.Status.TheVariants.{Done, Unpublished, Usage, Refused, ReadFault, WriteFault, Memory, Invalid, Missing, TooLong}
use Rattle.mari_answers.specs.Reports.{WhereReported, publication_path}
use Rattle.mari_commands.specs.Commands.{AreCleared, AsksForFeed, AsksForPages, AsksForValues, AsksToCheck, AsksToClear, HasFeed, IsAlone, IsFeedable, IsInvalid, IsRefused, LacksPage, Prints, ReadsFolder, StatesValues, fetch_of}
use Rattle.mari_answers.specs.Texts.{text_refusal}
use Rattle.mari_commands.specs.Headline.{WroteDay}
use Rattle.mari_commands.specs.Outcome.{IsValidLine, MayWant}
use Rattle.mari_commands.specs.Splits.{AreSplit, AsksToSplit, WroteSplit}
use Rattle.mari_commands.specs.Summary.{IsGenerated}
use Rattle.mari_split.specs.Days.{WroteSplitPart, WroteSplitPrefix}
use Rattle.mari_commands.specs.Printing.{usage_line}
use Rattle.mari_answers.specs.Lines.{file_line, invalid_line, page_status, page_word, refused_line}
use Rattle.mari_answers.specs.Refusals.{HasName}
use Rattle.mari_commands.specs.Values.{value_line}

-- the word of a page that can't be had
abbrev pub gap_word : Gap → List ℕ
gap_word gap = page_word (fetch_of gap)

-- ---- what is printed before the line of a status

-- lines of the parts of a page were taken, as is said; or nothing was, where it isn't held
abbrev pub TookOf : (List ℕ → Option (List ℕ) → Option (List ℕ) → Type 0) → Option (List ℕ) → (before after : Option (List ℕ)) → Type 0
TookOf Took None before after = after ≡ before
TookOf Took (Some page) before after = Took page before after

-- how the valuing of a publication ends where its text is refused, where a call of the shelf failed, where its page
-- can't be had, and where a fault of the check is the first
abbrev pub IsRefusedEnd : Refusal → ValueEnd → Type 0
IsRefusedEnd refusal end = (fault : TextFault) × (end ≡ values.Text fault) × (refusal ≡ text_refusal fault)

abbrev pub IsFailedEnd : ValueEnd → Type 0
IsFailedEnd end = end ≡ values.Fetch fetch.Failed

abbrev pub IsGapEnd : Gap → ValueEnd → Type 0
IsGapEnd gap end = end ≡ values.Fetch (fetch_of gap)

abbrev pub IsInvalidEnd : (run fault : ℕ) → ValueEnd → Type 0
IsInvalidEnd run fault end = end ≡ values.Invalid run fault

-- the lines of the blocks that were checked, where the valuing ends as is said
abbrev pub SaysValues : Option Asked → Pages → (Ends : ValueEnd → Type 0) → List ℕ → Type 0
SaysValues asked pages Ends lines = (end : ValueEnd) × Ends end × StatesValues asked pages end lines

-- what is printed before a line that names this file: nothing, where the words ask for no lines of a publication or the
-- file isn't that; or lines of its parts, where they ask for a feed; or the lines of the blocks that were checked,
-- where they ask for the values of limits
pub data TookAhead (asked : Option Asked) (pages : Option Pages) (file : ℕ) (Took : List ℕ → Option (List ℕ) → Option (List ℕ) → Type 0)
    (Ends : ValueEnd → Type 0) (before after : Option (List ℕ)) : Type 0 where
  Nothing : IsAlone asked file → after ≡ before → TookAhead asked pages file Took Ends before after
  Lines : (folder : List ℕ) → asked ≡ Some (Feed folder) → file ≡ PUBLICATION
      → WhereReported pages (λ reported. TookOf Took (page_of reported (publication_path folder)) before after)
      → TookAhead asked pages file Took Ends before after
  Values : AsksForValues asked → file ≡ PUBLICATION → (lines : List ℕ)
      → WhereReported pages (λ reported. SaysValues asked reported Ends lines) → after ≡ then_took before lines
      → TookAhead asked pages file Took Ends before after

-- and then this line was taken
pub record TookLine (asked : Option Asked) (pages : Option Pages) (file : ℕ) (Took : List ℕ → Option (List ℕ) → Option (List ℕ) → Type 0)
    (Ends : ValueEnd → Type 0) (line : List ℕ) (before after : Option (List ℕ)) : Type 0 where
  pub between : Option (List ℕ)
  pub ahead : TookAhead asked pages file Took Ends before between
  pub took : after ≡ then_took between line

-- and then a first part of this line was taken
pub record BeganLine (asked : Option Asked) (pages : Pages) (Took : List ℕ → Option (List ℕ) → Option (List ℕ) → Type 0) (line : List ℕ)
    (before after : Option (List ℕ)) : Type 0 where
  pub between : Option (List ℕ)
  pub ahead : TookAhead asked (Some pages) PUBLICATION Took (λ end. ⊥) before between
  pub began : TookPart between after line

-- the lines of the values and the line of their status, or a first part of these; that a call of the shelf failed is
-- said only where one did
pub record BeganValues (asked : Option Asked) (pages : Pages) (failed : Type 0) (before after : Option (List ℕ)) : Type 0 where
  pub end : ValueEnd
  pub lines : List ℕ
  pub states : StatesValues asked pages end lines
  pub cause : IsPageEnd fetch.Failed end → failed
  pub began : TookPart before after (lines ++ value_line end)

-- ---- what is printed

-- all was done: a day is written whose runs are all published, each as a whole or island by island, or the feed of a
-- publication, or a text that is printed where all is well
pub data IsDone (asked : Option Asked) (pages : Pages) (before after : Option (List ℕ)) : Type 0 where
  Cleared : WroteDay asked pages true before after → IsDone asked pages before after
  Fed : (is : IsFeedable asked pages) → TookFeed is.page before after → IsDone asked pages before after
  Split : WroteSplit asked pages true before after → IsDone asked pages before after
  Printed : (text : List ℕ) → Prints asked pages text → after ≡ then_took before text → IsDone asked pages before after

-- a text that may be printed where no day or feed is and no values, by what it states; that a fetch failed is reported
-- only where one did
pub data IsLine (asked : Option Asked) (pages : Pages) (failed : Type 0) (text : List ℕ) : Type 0 where
  OfUsage : asked ≡ None → text ≡ usage_line → IsLine asked pages failed text
  OfRefusal : (refusal : Refusal) → IsRefused asked pages refusal → IsAlone asked refusal.file → text ≡ refused_line refusal → IsLine asked pages failed text
  OfFault : failed → (folder : List ℕ) (file : ℕ) → ReadsFolder asked folder → MayWant asked file → IsAlone asked file
      → text ≡ file_line (page_word fetch.Failed) file → IsLine asked pages failed text
  OfMissing : (file : ℕ) → LacksPage asked pages file NotHeld → IsAlone asked file → text ≡ file_line (gap_word NotHeld) file → IsLine asked pages failed text
  OfTooLong : (file : ℕ) → LacksPage asked pages file OverLimit → IsAlone asked file → text ≡ file_line (gap_word OverLimit) file
      → IsLine asked pages failed text
  OfInvalid : (run fault : ℕ) → IsInvalid asked pages run fault → IsAlone asked PUBLICATION → text ≡ invalid_line run fault → IsLine asked pages failed text
  OfText : Prints asked pages text → IsLine asked pages failed text

-- a write failed: a first part was taken of the text of a day part or of a day, or of another text that may be printed;
-- or of the lines of a publication's first parts, or of these and the line of a status; or of the values of limits and
-- the line of theirs
pub data IsCutOff (asked : Option Asked) (pages : Pages) (failed : Type 0) (before after : Option (List ℕ)) : Type 0 where
  Day : (books : Books) (nodes : ℕ) → AreCleared asked pages books nodes → WrotePrefix books nodes before after → IsCutOff asked pages failed before after
  Line : (AsksForFeed asked → ⊥) → (text : List ℕ) → IsLine asked pages failed text → TookPart before after text → IsCutOff asked pages failed before after
  FeedPart : (page : List ℕ) → HasFeed asked pages page → TookSome page before after → IsCutOff asked pages failed before after
  SplitDay : (books : Books) (nodes : ℕ) → AreSplit asked pages books nodes → WroteSplitPrefix books nodes before after
      → IsCutOff asked pages failed before after
  FeedRefused : (refusal : Refusal) → IsRefused asked pages refusal → BeganLine asked pages TookAll (refused_line refusal) before after
      → IsCutOff asked pages failed before after
  FeedFault : failed → AsksForFeed asked → BeganLine asked pages TookFirst (file_line (page_word fetch.Failed) PUBLICATION) before after
      → IsCutOff asked pages failed before after
  FeedGap : (gap : Gap) → LacksPage asked pages PUBLICATION gap → BeganLine asked pages TookFirst (file_line (gap_word gap) PUBLICATION) before after
      → IsCutOff asked pages failed before after
  ValuesPart : BeganValues asked pages failed before after → IsCutOff asked pages failed before after

-- out of memory: nothing was taken, or the head and whole blocks of a day part, or the lines of the first parts of
-- a publication
pub data IsStarved (asked : Option Asked) (pages : Pages) (before after : Option (List ℕ)) : Type 0 where
  Nothing : after ≡ before → IsStarved asked pages before after
  Part : (books : Books) (nodes : ℕ) → AreCleared asked pages books nodes → WrotePart books nodes before after → IsStarved asked pages before after
  FeedPart : (page : List ℕ) → HasFeed asked pages page → TookFirst page before after → IsStarved asked pages before after
  SplitPart : (books : Books) (nodes : ℕ) → AreSplit asked pages books nodes → WroteSplitPart books nodes before after → IsStarved asked pages before after

-- a page can't be had, and the line of its file is taken
pub record TookGapLine (asked : Option Asked) (pages : Option Pages) (gap : Gap) (before after : Option (List ℕ)) : Type 0 where
  pub file : ℕ
  pub wanted : MayWant asked file
  pub first : WhereReported pages (λ reported. LacksPage asked reported file gap)
  pub line : TookLine asked pages file TookFirst (IsGapEnd gap) (file_line (gap_word gap) file) before after

-- where a day is generated, its summary was taken
abbrev pub TookSummary : Option Asked → (before after : Option (List ℕ)) → Type 0
TookSummary asked before after = (number : ℕ) → asked ≡ Some (Generate number) → (text : List ℕ) × IsGenerated number text × (after ≡ then_took before text)

-- where a publication is checked, the line of a valid one was taken
abbrev pub TookVerdict : Option Asked → (before after : Option (List ℕ)) → Type 0
TookVerdict asked before after = (folder : List ℕ) → asked ≡ Some (Check folder) → (text : List ℕ) × IsValidLine text × (after ≡ then_took before text)

-- whatever the pages are, a first part was taken of what such words print: of the usage line, or of the summary of a
-- generated day
pub record TookFirstPart (asked : Option Asked) (before after : Option (List ℕ)) : Type 0 where
  pub usage : asked ≡ None → TookPart before after usage_line
  pub summary : (number : ℕ) → asked ≡ Some (Generate number) → (text : List ℕ) × IsGenerated number text × TookPart before after text

-- what each answer says of what the words ask for, of the pages where they are reported, of a fetch that failed, and of
-- what the sink has taken; a refusal is printed with the name of its check, and has one
abbrev pub Answers : Option Asked → Option Pages → (failed : Type 0) → (before after : Option (List ℕ)) → Status → Type 0
Answers asked pages failed before after Done =
    WhereReported pages (λ reported. IsDone asked reported before after) × TookSummary asked before after × TookVerdict asked before after
Answers asked pages failed before after Unpublished =
    (AsksToClear asked × WhereReported pages (λ reported. WroteDay asked reported false before after))
    ⊎ (AsksToSplit asked × WhereReported pages (λ reported. WroteSplit asked reported false before after))
Answers asked pages failed before after Usage = (asked ≡ None) × (after ≡ then_took before usage_line)
Answers asked pages failed before after (Refused refusal) =
    AsksForPages asked × WhereReported pages (λ reported. IsRefused asked reported refusal) × TookLine asked pages refusal.file TookAll
    (IsRefusedEnd refusal) (refused_line refusal) before after × HasName refusal
Answers asked pages failed before after ReadFault =
    AsksForPages asked
    × ((file : ℕ) × MayWant asked file × TookLine asked pages file TookFirst IsFailedEnd (file_line (page_word fetch.Failed) file) before after)
Answers asked pages failed before after WriteFault =
    WhereReported pages (λ reported. IsCutOff asked reported failed before after) × TookFirstPart asked before after
Answers asked pages failed before after Memory =
    WhereReported pages (λ reported. IsStarved asked reported before after)
    × ((after ≡ before) ⊎ (AsksToClear asked ⊎ (AsksForFeed asked ⊎ AsksToSplit asked)))
Answers asked pages failed before after (Invalid run fault) =
    (AsksToCheck asked ⊎ AsksForValues asked) × WhereReported pages (λ reported. IsInvalid asked reported run fault) × TookLine asked pages
    PUBLICATION TookAll (IsInvalidEnd run fault) (invalid_line run fault) before after
Answers asked pages failed before after Missing = AsksForPages asked × TookGapLine asked pages NotHeld before after
Answers asked pages failed before after TooLong = AsksForPages asked × TookGapLine asked pages OverLimit before after

-- the status of a page that can't be had
abbrev pub gap_status : Gap → Status
gap_status gap = page_status (fetch_of gap)

-- this answer, or that of a failed fetch, of a failed write, or of no memory
abbrev pub OrFault : (Status → Type 0) → Status → Type 0
OrFault IsWanted result = IsWanted result ⊎ ((result ≡ ReadFault) ⊎ ((result ≡ WriteFault) ⊎ (result ≡ Memory)))

-- this status alone
abbrev pub IsStatus : Status → Status → Type 0
IsStatus wanted result = result ≡ wanted

-- a day was written
abbrev pub IsDayStatus : Status → Type 0
IsDayStatus result = (result ≡ Done) ⊎ (result ≡ Unpublished)

-- a publication was checked
abbrev pub IsVerdictStatus : Status → Type 0
IsVerdictStatus result = (result ≡ Done) ⊎ ((run : ℕ) × (fault : ℕ) × (result ≡ Invalid run fault))
