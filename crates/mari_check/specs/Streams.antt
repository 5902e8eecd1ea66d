-- A publication that is read in pieces: what has come of it, and what is answered.
use Rattle.std.specs.Prelude.{◌≡◌, ◌≤◌, ◌⊎◌, ℕ, List, [], ◌∷◌, ◌++◌, length, map, Option, Some, None, Result, Ok, Err, ⊤}
use Rattle.mari_io.specs.declared.shelf.Fetch.{Fetch}
use Rattle.mari_io.specs.declared.shelf.Fetch.TheVariants as fetch
use Rattle.mari_io.specs.Outside.{most_given}
use Rattle.mari_units.specs.declared.faults.Memory.{Memory as NoRoom}
use Rattle.mari_publish.specs.Faults.{IsText}
use Rattle.mari_publish.specs.Paged.{IsReportedFault, IsTooLong}
use Rattle.mari_publish.specs.Pieces.{parts_of}
use Rattle.mari_publish.specs.Streams.{StopsAtFault}
use Rattle.mari_publish.specs.declared.fault.TextFault.{TextFault}
use Rattle.mari_publish.specs.declared.fault.TextFault.TheVariants as fault
use Rattle.mari_publish.specs.declared.publication.Block.{Block}
use Rattle.mari_publish.specs.declared.publication.Part.{Part}
use Rattle.mari_publish.specs.declared.publication.Part.TheVariants as part
use Rattle.mari_publish.specs.declared.publication.Publication.{Publication}
use Rattle.mari_publish.specs.declared.stream.ReadStop.{ReadStop}
use Rattle.mari_publish.specs.declared.stream.ReadStop.TheVariants as read
use Rattle.mari_remain.specs.declared.books.Books.{Books}
use Rattle.mari_progress.specs.Totals.{HasHead}
use Rattle.mari_check.specs.declared.day.DayCheck.{DayCheck}
use Rattle.mari_check.specs.declared.stream.StreamFault.{StreamFault}
use Rattle.mari_check.specs.declared.stream.StreamFault.TheVariants.{Fetch as OfFetch, Text as OfText, Memory as NoMemory}
use Rattle.mari_check.specs.declared.verdict.Verdict.{Verdict}
use Rattle.mari_check.specs.Checked.{IsChecked}
use Rattle.mari_check.specs.Verdicts.{IsVerdict}

-- ---- what is answered

-- why there is no verdict on a page, or where it isn't held
abbrev pub FaultStates : Option (List ℕ) → StreamFault → Type 0
FaultStates None (OfFetch fetch.Failed) = ⊤
FaultStates None (OfFetch fetch.Missing) = ⊤
FaultStates None (OfFetch fetch.TooLong) = ⊥
FaultStates None (OfFetch fetch.Memory) = ⊥
FaultStates None (OfText f) = ⊥
FaultStates None NoMemory = ⊤
FaultStates (Some page) (OfFetch fetch.Failed) = ⊤
FaultStates (Some page) (OfFetch fetch.Missing) = ⊥
FaultStates (Some page) (OfFetch fetch.TooLong) = IsTooLong page
FaultStates (Some page) (OfFetch fetch.Memory) = ⊥
FaultStates (Some page) (OfText f) = IsReportedFault page f
FaultStates (Some page) NoMemory = ⊤

-- the verdict on the publication whose text this is
abbrev pub IsVerdictOn : Books → List ℕ → Verdict → Type 0
IsVerdictOn books text verdict = (p : Publication) × IsText text p × IsVerdict books p verdict

-- the verdict on the publication whose text the page is, which may be given whole
abbrev pub VerdictStates : Books → Option (List ℕ) → Verdict → Type 0
VerdictStates books None verdict = ⊥
VerdictStates books (Some page) verdict = (length page ≤ most_given) × IsVerdictOn books page verdict

-- what the check says of the page of a name, where pages are reported
abbrev pub StreamStates : Books → Option (List ℕ) → Result Verdict StreamFault → Type 0
StreamStates books page (Ok verdict) = VerdictStates books page verdict
StreamStates books page (Err why) = FaultStates page why

-- where a text is read whole, the check says the same of it: a verdict on the publication, or the same fault
abbrev pub SameAsRead : Books → Result Publication TextFault → Result Verdict StreamFault → Type 0
SameAsRead books (Ok p) (Ok verdict) = IsVerdict books p verdict
SameAsRead books (Ok p) (Err (OfText f)) = ⊥
SameAsRead books (Err e) (Ok verdict) = e ≡ fault.Memory
SameAsRead books (Err e) (Err (OfText f)) = (e ≡ f) ⊎ (e ≡ fault.Memory)
SameAsRead books answer (Err (OfFetch f)) = ⊤
SameAsRead books answer (Err NoMemory) = ⊤

-- nothing is read after a fault of a line; the end of the text is no fault of a line
abbrev pub FaultStops : {S : Type 0} → (rest : S → Option (List ℕ)) → (calls : S → ℕ) → (page : List ℕ) → S → StreamFault → Type 0
FaultStops rest calls page shelf (OfText (fault.BadLine n)) = StopsAtFault rest calls page (fault.BadLine n) shelf
FaultStops rest calls page shelf (OfText (fault.BadOrder n)) = StopsAtFault rest calls page (fault.BadOrder n) shelf
FaultStops rest calls page shelf (OfText (fault.Truncated n)) = ⊤
FaultStops rest calls page shelf (OfText fault.Memory) = ⊤
FaultStops rest calls page shelf (OfFetch f) = ⊤
FaultStops rest calls page shelf NoMemory = ⊤

-- a call of the shelf gave this fault
abbrev pub IsStreamFetch : {T : Type 0} → Fetch → Result T StreamFault → Type 0
IsStreamFetch f (Err (OfFetch g)) = g ≡ f
IsStreamFetch f (Err (OfText g)) = ⊥
IsStreamFetch f (Err NoMemory) = ⊥
IsStreamFetch f (Ok x) = ⊥

-- out of memory is reported as a fault of the shelf or of the text
abbrev pub IsWrapped : {T : Type 0} → Result T StreamFault → Type 0
IsWrapped (Err (OfFetch f)) = f ≡ fetch.Memory
IsWrapped (Err (OfText f)) = f ≡ fault.Memory
IsWrapped (Err NoMemory) = ⊥
IsWrapped (Ok x) = ⊥

-- by why the reading of the page does
abbrev pub stream_fault : ReadStop NoRoom → StreamFault
stream_fault (read.Unopened f) = OfFetch f
stream_fault (read.Fetch f) = OfFetch f
stream_fault (read.Text f) = OfText f
stream_fault (read.Part none) = NoMemory
stream_fault read.Memory = NoMemory

-- ---- what has come

-- after these parts this one may come: they begin a publication together
pub record Comes (parts : List Part) (x : Part) : Type 0 where
  pub whole : Publication
  pub more : List Part
  pub are : parts_of whole ≡ parts ++ x ∷ more

-- the head that was given is that of the books, and the blocks after it have no fault
pub record IsFaultlessSoFar (books : Books) (date : List ℕ) (quarters budget : ℕ) (rest : List Part) (day : DayCheck) : Type 0 where
  pub head : HasHead books date quarters
  pub budget_is : budget ≡ day.budget
  pub blocks : List Block
  pub are : rest ≡ map part.Block blocks
  pub checked : IsChecked books blocks day

-- the parts so far settle no verdict: there are none, or a head and blocks that have no fault
abbrev pub IsOpen : Books → List Part → DayCheck → Type 0
IsOpen books [] day = IsChecked books [] day
IsOpen books (part.Head date quarters budget ∷ rest) day = IsFaultlessSoFar books date quarters budget rest day
IsOpen books (part.Block b ∷ rest) day = ⊥
IsOpen books (part.Totals operators providers ∷ rest) day = ⊥

-- the parts so far settle the verdict on each publication that begins with them
abbrev pub SettlesVerdict : Books → List Part → Verdict → Type 0
SettlesVerdict books parts verdict = (p : Publication) (more : List Part) → parts_of p ≡ parts ++ more → IsVerdict books p verdict

-- what is known of the verdict after these parts: it is open, or settled
abbrev pub IsVerdictSoFar : Books → List Part → DayCheck → Option Verdict → Type 0
IsVerdictSoFar books parts day None = IsOpen books parts day
IsVerdictSoFar books parts day (Some verdict) = SettlesVerdict books parts verdict
