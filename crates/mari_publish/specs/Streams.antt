-- A publication that is read in pieces, by whatever takes its parts: what is said of its page, by how the reading ends.
-- Below, `Took` says that these parts were taken, and `Breaks` that this part wasn't, after those, for this reason.
use Rattle.std.specs.Prelude.{◌≡◌, ◌≤◌, ◌+◌, ℕ, true, List, [], ◌++◌, length, take, Option, Some, None, Result, Ok, Err, ⊤}
use Rattle.mari_io.specs.Outside.{counted, counted_by, most_given}
use Rattle.mari_io.specs.declared.shelf.Fetch.{Fetch}
use Rattle.mari_io.specs.declared.shelf.Fetch.TheVariants as fetch
use Rattle.mari_io.specs.declared.shelf.TheConstants.{MOST_PIECE}
use Rattle.mari_publish.specs.Faults.{IsText}
use Rattle.mari_publish.specs.Paged.{IsLineFault, IsReportedFault, IsTooLong}
use Rattle.mari_publish.specs.Pieces.{ComeState, ComesFrom, HasPart, HoldsParts, NoFault, NoPart, ReaderState, parts_of}
use Rattle.mari_publish.specs.declared.fault.TextFault.{TextFault}
use Rattle.mari_publish.specs.declared.fault.TextFault.TheVariants as fault
use Rattle.mari_publish.specs.declared.publication.Part.{Part}
use Rattle.mari_publish.specs.declared.publication.Publication.{Publication}
use Rattle.mari_publish.specs.declared.stream.ReadStop.{ReadStop}
use Rattle.mari_publish.specs.declared.stream.ReadStop.TheVariants.{Unopened, Fetch as OfFetch, Text as OfText, Part as OfPart, Memory as NoMemory}

-- ---- what was taken

-- the first parts of a text, or none
pub record TookFirst (Took : List Part → Type 0) (text : List ℕ) : Type 0 where
  pub parts : List Part
  pub first : HoldsParts text parts
  pub took : Took parts

-- all parts that are whole in a text
pub record TookAll (Took : List Part → Type 0) (text : List ℕ) : Type 0 where
  pub parts : List Part
  pub first : HoldsParts text parts
  pub none : NoPart text parts
  pub took : Took parts

-- all parts of the publication whose text this is
pub record TookPublication (Took : List Part → Type 0) (text : List ℕ) : Type 0 where
  pub publication : Publication
  pub is : IsText text publication
  pub first : HoldsParts text (parts_of publication)
  pub took : Took (parts_of publication)

-- the parts of a text up to one that wasn't taken
pub record BrokeAt {X : Type 0} (Breaks : List Part → Part → X → Type 0) (text : List ℕ) (stop : X) : Type 0 where
  pub parts : List Part
  pub part : Part
  pub first : HoldsParts text parts
  pub there : HasPart text parts part
  pub broke : Breaks parts part stop

-- ---- how the reading of a page ends

-- where the page isn't held
abbrev pub MissStates : {X : Type 0} → (Took : List Part → Type 0) → ReadStop X → Type 0
MissStates Took (Unopened fetch.Failed) = Took []
MissStates Took (Unopened fetch.Missing) = Took []
MissStates Took (Unopened fetch.TooLong) = ⊥
MissStates Took (Unopened fetch.Memory) = ⊥
MissStates Took (OfFetch f) = ⊥
MissStates Took (OfText f) = ⊥
MissStates Took (OfPart stop) = ⊥
MissStates Took NoMemory = Took []

-- where it is held, and isn't read to its end
abbrev pub StopStates : {X : Type 0} → (Took : List Part → Type 0) → (Breaks : List Part → Part → X → Type 0) → (page : List ℕ) → ReadStop X → Type 0
StopStates Took Breaks page (Unopened fetch.Failed) = Took []
StopStates Took Breaks page (Unopened fetch.Missing) = ⊥
StopStates Took Breaks page (Unopened fetch.TooLong) = ⊥
StopStates Took Breaks page (Unopened fetch.Memory) = ⊥
StopStates Took Breaks page (OfFetch fetch.Failed) = TookFirst Took page
StopStates Took Breaks page (OfFetch fetch.Missing) = ⊥
StopStates Took Breaks page (OfFetch fetch.TooLong) = IsTooLong page × TookAll Took (take most_given page)
StopStates Took Breaks page (OfFetch fetch.Memory) = ⊥
StopStates Took Breaks page (OfText f) = IsReportedFault page f × TookAll Took page
StopStates Took Breaks page (OfPart stop) = BrokeAt Breaks (take most_given page) stop
StopStates Took Breaks page NoMemory = TookFirst Took page

-- what is said of the page of a name, where pages are reported
abbrev pub ReadStates : {X : Type 0}
    → (Took : List Part → Type 0) → (Breaks : List Part → Part → X → Type 0) → Option (List ℕ) → Result (Unit {0}) (ReadStop X) → Type 0
ReadStates Took Breaks None (Ok done) = ⊥
ReadStates Took Breaks None (Err why) = MissStates Took why
ReadStates Took Breaks (Some page) (Ok done) = (length page ≤ most_given) × TookPublication Took page
ReadStates Took Breaks (Some page) (Err why) = StopStates Took Breaks page why

-- and on any shelf, of some text
abbrev pub SomeStates : {X : Type 0} → (Took : List Part → Type 0) → (Breaks : List Part → Part → X → Type 0) → Result (Unit {0}) (ReadStop X) → Type 0
SomeStates Took Breaks (Ok done) = (text : List ℕ) × TookPublication Took text
SomeStates Took Breaks (Err (Unopened fetch.TooLong)) = ⊥
SomeStates Took Breaks (Err (Unopened f)) = Took []
SomeStates Took Breaks (Err (OfFetch fetch.Missing)) = ⊥
SomeStates Took Breaks (Err (OfFetch f)) = (text : List ℕ) × TookFirst Took text
SomeStates Took Breaks (Err (OfText f)) = (text : List ℕ) × TookFirst Took text
SomeStates Took Breaks (Err (OfPart stop)) = (text : List ℕ) × BrokeAt Breaks text stop
SomeStates Took Breaks (Err NoMemory) = (text : List ℕ) × TookFirst Took text

-- a fault of a line was answered as soon as it had come: one call on the shelf, the last, gave the piece that brought
-- it. No whole line of what was read before has a fault, the fault is that of what was read and the piece, and all that
-- stands after these on the page is left. What is left and how many calls were made, the shelf states
pub record StopsAtFault {S : Type 0} (rest : S → Option (List ℕ)) (calls : S → ℕ) (page : List ℕ) (fault : TextFault) (shelf : S) : Type 0 where
  pub read : List ℕ
  pub piece : List ℕ
  pub left : List ℕ
  pub page_is : page ≡ read ++ (piece ++ left)
  pub no_fault : NoFault read
  pub here : IsLineFault (read ++ piece) fault
  pub few : length piece ≤ MOST_PIECE
  pub before : S
  pub all_left : rest before ≡ Some (piece ++ left)
  pub last_call : calls shelf ≡ counted (calls before)
  pub left_is : rest shelf ≡ Some left

-- nothing is read after a fault of a line; the end of the text is no fault of a line
abbrev pub ReadStops : {S X : Type 0} → (rest : S → Option (List ℕ)) → (calls : S → ℕ) → (page : List ℕ) → S → ReadStop X → Type 0
ReadStops rest calls page shelf (OfText (fault.BadLine n)) = StopsAtFault rest calls page (fault.BadLine n) shelf
ReadStops rest calls page shelf (OfText (fault.BadOrder n)) = StopsAtFault rest calls page (fault.BadOrder n) shelf
ReadStops rest calls page shelf (OfText (fault.Truncated n)) = ⊤
ReadStops rest calls page shelf (OfText fault.Memory) = ⊤
ReadStops rest calls page shelf (Unopened f) = ⊤
ReadStops rest calls page shelf (OfFetch f) = ⊤
ReadStops rest calls page shelf (OfPart stop) = ⊤
ReadStops rest calls page shelf NoMemory = ⊤

-- ---- which calls the shelf gets

-- so many calls that they may all be for pieces of a page: at most one for each byte that was given, and one
pub record AsksForPieces (before now given : ℕ) : Type 0 where
  pub pieces : ℕ
  pub few : pieces ≤ given + 1
  pub asked : now ≡ counted_by pieces before

-- one call, and then so many that they may all be for pieces of a page; none where no page was opened
pub record AsksForPage (unopened : Type 0) (before now given : ℕ) : Type 0 where
  pub pieces : ℕ
  pub few : pieces ≤ given + 1
  pub none : unopened → pieces ≡ 0
  pub asked : now ≡ counted_by pieces (counted before)

-- ---- why it ends

-- no page was opened
abbrev pub IsUnopened : {T X : Type 0} → Result T (ReadStop X) → Type 0
IsUnopened (Ok done) = ⊥
IsUnopened (Err (Unopened f)) = ⊤
IsUnopened (Err (OfFetch f)) = ⊥
IsUnopened (Err (OfText f)) = ⊥
IsUnopened (Err (OfPart stop)) = ⊥
IsUnopened (Err NoMemory) = ⊥

-- a call of the shelf gave this fault
abbrev pub IsReadFetch : {T X : Type 0} → Fetch → Result T (ReadStop X) → Type 0
IsReadFetch f (Ok done) = ⊥
IsReadFetch f (Err (Unopened g)) = g ≡ f
IsReadFetch f (Err (OfFetch g)) = g ≡ f
IsReadFetch f (Err (OfText g)) = ⊥
IsReadFetch f (Err (OfPart stop)) = ⊥
IsReadFetch f (Err NoMemory) = ⊥

-- a part wasn't taken, for a reason of this kind
abbrev pub IsPartFault : {T X : Type 0} → (X → Type 0) → Result T (ReadStop X) → Type 0
IsPartFault IsFault (Ok done) = ⊥
IsPartFault IsFault (Err (Unopened f)) = ⊥
IsPartFault IsFault (Err (OfFetch f)) = ⊥
IsPartFault IsFault (Err (OfText f)) = ⊥
IsPartFault IsFault (Err (OfPart stop)) = IsFault stop
IsPartFault IsFault (Err NoMemory) = ⊥

-- out of memory is reported as a fault of the shelf or of the text
abbrev pub IsWrapped : {T X : Type 0} → Result T (ReadStop X) → Type 0
IsWrapped (Ok done) = ⊥
IsWrapped (Err (Unopened f)) = f ≡ fetch.Memory
IsWrapped (Err (OfFetch f)) = f ≡ fetch.Memory
IsWrapped (Err (OfText f)) = f ≡ fault.Memory
IsWrapped (Err (OfPart stop)) = ⊥
IsWrapped (Err NoMemory) = ⊥

-- how a fault of the shelf is reported: where it gave no page, and where it gave no further piece; and one of the text
abbrev pub stop_of_opening : {X : Type 0} → Fetch → ReadStop X
stop_of_opening fetch.Failed = Unopened fetch.Failed
stop_of_opening fetch.Missing = Unopened fetch.Missing
stop_of_opening fetch.TooLong = Unopened fetch.TooLong
stop_of_opening fetch.Memory = NoMemory

abbrev pub stop_of_fetch : {X : Type 0} → Fetch → ReadStop X
stop_of_fetch fetch.Failed = OfFetch fetch.Failed
stop_of_fetch fetch.Missing = OfFetch fetch.Missing
stop_of_fetch fetch.TooLong = OfFetch fetch.TooLong
stop_of_fetch fetch.Memory = NoMemory

abbrev pub stop_of_text : {X : Type 0} → TextFault → ReadStop X
stop_of_text (fault.BadLine n) = OfText (fault.BadLine n)
stop_of_text (fault.BadOrder n) = OfText (fault.BadOrder n)
stop_of_text (fault.Truncated n) = OfText (fault.Truncated n)
stop_of_text fault.Memory = NoMemory

-- ---- what has come

-- a text has come, and these parts of it were taken
pub record HasTaken (Took : List Part → Type 0) (text : List ℕ) (parts : List Part) (come : ComeState) : Type 0 where
  pub stands : ComesFrom come text parts
  pub took : Took parts

-- all parts that have come were taken, and no whole line has a fault
pub record AllTaken (Took : List Part → Type 0) (text : List ℕ) (reader : ReaderState) : Type 0 where
  pub parts : List Part
  pub taken : HasTaken Took text parts reader.come
  pub waits : reader.waits ≡ true
  pub none : NoPart text parts
  pub no_fault : NoFault text

-- how far the text that has come is taken
abbrev pub PartsReport : {X : Type 0}
    → (Took : List Part → Type 0) → (Breaks : List Part → Part → X → Type 0) → List ℕ → ReaderState → Result (Unit {0}) (ReadStop X) → Type 0
PartsReport Took Breaks text reader (Ok done) = AllTaken Took text reader
PartsReport Took Breaks text reader (Err (Unopened f)) = ⊥
PartsReport Took Breaks text reader (Err (OfFetch f)) = ⊥
PartsReport Took Breaks text reader (Err (OfText f)) = IsLineFault text f × TookAll Took text
PartsReport Took Breaks text reader (Err (OfPart stop)) = BrokeAt Breaks text stop
PartsReport Took Breaks text reader (Err NoMemory) = TookFirst Took text

-- how far a page is taken that is read to its end, or as far as could be; and on any shelf
abbrev pub PiecesReport : {X : Type 0}
    → (Took : List Part → Type 0) → (Breaks : List Part → Part → X → Type 0) → List ℕ → ReaderState → Result (Unit {0}) (ReadStop X) → Type 0
PiecesReport Took Breaks page reader (Ok done) = (length page ≤ most_given) × AllTaken Took page reader
PiecesReport Took Breaks page reader (Err why) = StopStates Took Breaks page why

abbrev pub SomePieces : {X : Type 0}
    → (Took : List Part → Type 0) → (Breaks : List Part → Part → X → Type 0) → ReaderState → Result (Unit {0}) (ReadStop X) → Type 0
SomePieces Took Breaks reader (Ok done) = (text : List ℕ) × AllTaken Took text reader
SomePieces Took Breaks reader (Err why) = SomeStates Took Breaks (Err why)
