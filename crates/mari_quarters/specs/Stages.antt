-- What each stage after the reading of the market files gives: the page of blocks.csv, the book of blocks, the text.
use Rattle.std.specs.Prelude.{ℕ, ◌≡◌, ◌⊎◌, List, Option, Some, None, Result, Ok, Err, ⊤}
use Rattle.mari_io.specs.declared.shelf.Fetch.{Fetch}
use Rattle.mari_io.specs.declared.shelf.Fetch.TheVariants as fetch
use Rattle.mari_io.specs.Outside.{counted}
use Rattle.mari_rows.specs.declared.faults.BookFault.{BookFault}
use Rattle.mari_rows.specs.declared.faults.BookFault.TheVariants as refused
use Rattle.mari_remain.specs.declared.books.Books.{Books}
use Rattle.mari_day.specs.Files.{gap_of}
use Rattle.mari_day.specs.Files.Gap.{NotHeld, OverLimit}
use Rattle.mari_day.specs.declared.files.TheConstants.{BLOCKS}
use Rattle.mari_day.specs.declared.reading.BooksFault.{BooksFault}
use Rattle.mari_day.specs.declared.reading.BooksFault.TheVariants as why
use Rattle.mari_blocks.specs.Joint.{joint_in}
use Rattle.mari_blocks.specs.Printed.{IsJointText}
use Rattle.mari_blocks.specs.declared.blocks.BlockBook.{BlockBook}
use Rattle.mari_blocks.specs.declared.clearing.JointText.{JointText}

-- what a page that can't be had says of blocks.csv, where that is known
abbrev pub FaultStates : Option (List ℕ) → Fetch → Type 0
FaultStates page fetch.Failed = ⊤
FaultStates page fetch.Missing = gap_of page ≡ Some NotHeld
FaultStates page fetch.TooLong = gap_of page ≡ Some OverLimit
FaultStates page fetch.Memory = ⊥

-- what fetching blocks.csv says of its page, where that is known
abbrev pub PageStates : Option (List ℕ) → Result (List ℕ) BooksFault → Type 0
PageStates page (Ok bytes) = (page ≡ Some bytes) × (gap_of page ≡ None)
PageStates page (Err (why.Fetch number fault)) = FaultStates page fault
PageStates page (Err (why.Refused refusal)) = ⊥
PageStates page (Err why.Memory) = ⊤

-- how many fetches the page of blocks.csv takes: one, and out of memory one at most
abbrev pub FetchesOne : {T : Type 0} → (before now : ℕ) → Result T BooksFault → Type 0
FetchesOne before now (Ok bytes) = now ≡ counted before
FetchesOne before now (Err (why.Fetch number fault)) = now ≡ counted before
FetchesOne before now (Err (why.Refused refusal)) = ⊥
FetchesOne before now (Err why.Memory) = (now ≡ before) ⊎ (now ≡ counted before)

-- a fetch that gave no page was one of blocks.csv
abbrev pub IsOfBlocks : {T : Type 0} → Result T BooksFault → Type 0
IsOfBlocks (Ok x) = ⊤
IsOfBlocks (Err (why.Fetch number fault)) = number ≡ BLOCKS
IsOfBlocks (Err (why.Refused refusal)) = ⊥
IsOfBlocks (Err why.Memory) = ⊤

-- this is the book of blocks that was to be read, or its refusal, which is one of blocks.csv, unless out of memory
abbrev pub ReadsBlocks : Result BlockBook BooksFault → Result BlockBook BookFault → Type 0
ReadsBlocks (Ok blocks) read = read ≡ Ok blocks
ReadsBlocks (Err (why.Refused refusal)) read = (read ≡ Err (refused.At refusal.line refusal.number)) × (refusal.file ≡ BLOCKS)
ReadsBlocks (Err why.Memory) read = ⊤
ReadsBlocks (Err (why.Fetch number fault)) read = ⊥

-- this is the text of the quarters' joint market, or the refusal of what can't be one market, unless out of memory
abbrev pub ClearsQuarters : Books → BlockBook → (first last budget : ℕ) → Result JointText BooksFault → Type 0
ClearsQuarters books blocks first last budget (Ok printed) = IsJointText books blocks first last budget printed.published printed.text
ClearsQuarters books blocks first last budget (Err (why.Refused refusal)) = joint_in books blocks first last ≡ Err refusal
ClearsQuarters books blocks first last budget (Err why.Memory) = ⊤
ClearsQuarters books blocks first last budget (Err (why.Fetch number fault)) = ⊥
