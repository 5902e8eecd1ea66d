-- A publication as far as it has come, and why no more of it is taken.
use Rattle.std.specs.Prelude.{◌≡◌, ◌≤◌, ℕ, List, [], ◌∷◌, ◌++◌, Option, Some, None, IfSome, Result, Ok, Err, ⊤}
use Rattle.mari_lines.specs.declared.line.AmountLine.{AmountLine}
use Rattle.mari_lines.specs.declared.line.MoneyLine.{MoneyLine}
use Rattle.mari_publish.specs.Faults.{IsText}
use Rattle.mari_publish.specs.Pieces.{parts_of}
use Rattle.mari_publish.specs.declared.publication.Part.{Part}
use Rattle.mari_publish.specs.declared.publication.Part.TheVariants as part
use Rattle.mari_publish.specs.declared.publication.Publication.{Publication}
use Rattle.mari_publish.specs.declared.stream.ReadStop.{ReadStop}
use Rattle.mari_publish.specs.declared.stream.ReadStop.TheVariants as read
use Rattle.mari_units.specs.declared.faults.Memory.{Memory as NoRoom}
use Rattle.mari_units.specs.declared.limits.TheConstants.{MOST_RAISE}
use Rattle.mari_remain.specs.Accepted.{IsAccepted}
use Rattle.mari_remain.specs.declared.books.Books.{Books}
use Rattle.mari_check.specs.Streams.{IsVerdictSoFar}
use Rattle.mari_capacity.specs.declared.ending.ValueStop.{ValueStop}
use Rattle.mari_capacity.specs.declared.ending.ValueStop.TheVariants.{At, Memory as NoMemory}
use Rattle.mari_capacity.specs.declared.ending.ValueEnd.TheVariants.{Valid, Invalid, Text as OfText, Fetch as OfFetch}
use Rattle.mari_capacity.specs.declared.stream.ValuesSoFar.{ValuesSoFar}
use Rattle.mari_capacity.specs.declared.ending.Valued.{Valued}
use Rattle.mari_capacity.specs.Ends.{HasFault}
use Rattle.mari_capacity.specs.Streams.{StatesChecked}

-- ---- what has come

-- the totals are the last of these parts
abbrev pub HaveEnded : List Part → Type 0
HaveEnded parts = (front : List Part) × (operators : List MoneyLine) × (providers : List AmountLine) × (parts ≡ front ++ part.Totals operators providers ∷ [])

-- these parts were taken: they settle a verdict where the totals are among them, and no part has a fault before them
pub record HasTaken (books : Books) (more : ℕ) (parts : List Part) (s : ValuesSoFar) : Type 0 where
  pub found : IsVerdictSoFar books parts s.day s.found
  pub ended : IfSome s.found (λ v. HaveEnded parts)
  pub states : StatesChecked books more parts s.lines.items
  pub more_is : s.more ≡ more

-- the same by these books, whose limits may be raised so far
pub record KeepsValues (books : Books) (more : ℕ) (parts : List Part) (s : ValuesSoFar) : Type 0 where
  pub accepted : IsAccepted books
  pub books_are : s.books.now ≡ books
  pub raise : more ≤ MOST_RAISE
  pub taken : HasTaken books more parts s

-- all parts of the publication whose text this is were taken
pub record TookWhole (books : Books) (more : ℕ) (text : List ℕ) (s : ValuesSoFar) : Type 0 where
  pub publication : Publication
  pub is : IsText text publication
  pub taken : HasTaken books more (parts_of publication) s

-- ---- why it stops

-- at a part
abbrev pub StopsAtPart : Books → (more : ℕ) → List Part → Part → (lines : List ℕ) → ValueStop → Type 0
StopsAtPart books more parts x lines (At (Invalid run number)) = HasFault books parts x run number × StatesChecked books more parts lines
StopsAtPart books more parts x lines (At (Valid published unpublished)) = ⊥
StopsAtPart books more parts x lines (At (OfText f)) = ⊥
StopsAtPart books more parts x lines (At (OfFetch why)) = ⊥
StopsAtPart books more parts x lines NoMemory = ⊤

-- the same, but for the check of its day and its lines
pub record IsSameButDay (old new : ValuesSoFar) : Type 0 where
  pub books : new.books ≡ old.books
  pub more : new.more ≡ old.more
  pub found : new.found ≡ old.found
  pub budget : new.day.budget ≡ old.day.budget

-- it stops where a fault was found, of this run
abbrev pub IsStopAt : {T : Type 0} → (run : ℕ) → Result (Option ℕ) NoRoom → Result T ValueStop → Type 0
IsStopAt run (Ok None) (Ok done) = ⊤
IsStopAt run (Ok None) (Err why) = ⊥
IsStopAt run (Ok (Some number)) (Ok done) = ⊥
IsStopAt run (Ok (Some number)) (Err why) = why ≡ At (Invalid run number)
IsStopAt run (Err e) (Ok done) = ⊥
IsStopAt run (Err e) (Err why) = why ≡ NoMemory

-- what there is where the page isn't read to its end: the lines so far, or none where no page was opened; nothing when
-- out of memory
abbrev pub StopsValues : {E : Type 0} → ReadStop ValueStop → (lines : List ℕ) → Result Valued E → Type 0
StopsValues (read.Unopened f) lines (Ok v) = (v.text ≡ []) × (v.end ≡ OfFetch f)
StopsValues (read.Fetch f) lines (Ok v) = (v.text ≡ lines) × (v.end ≡ OfFetch f)
StopsValues (read.Text f) lines (Ok v) = (v.text ≡ lines) × (v.end ≡ OfText f)
StopsValues (read.Part (At end)) lines (Ok v) = (v.text ≡ lines) × (v.end ≡ end)
StopsValues (read.Part NoMemory) lines (Ok v) = ⊥
StopsValues read.Memory lines (Ok v) = ⊥
StopsValues stop lines (Err e) = ⊤
