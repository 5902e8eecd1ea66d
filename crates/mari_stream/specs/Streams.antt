-- A page of a form's text that is read in pieces, by whatever takes its parts: what is said of it, by how the reading ends.
-- Below, `Took` says that these parts were taken, and `Breaks` that this part wasn't, after those, for this reason.
use Rattle.std.specs.Prelude.{◌≡◌, ◌≤◌, ◌<◌, ℕ, List, [], ◌++◌, length, take, Option, Some, None, Result, Ok, Err, ⊤}
use Rattle.mari_io.specs.Outside.{counted, most_given}
use Rattle.mari_io.specs.declared.shelf.Fetch.TheVariants as fetch
use Rattle.mari_io.specs.declared.shelf.TheConstants.{MOST_PIECE}
use Rattle.mari_publish.specs.declared.fault.TextFault.{TextFault}
use Rattle.mari_publish.specs.declared.fault.TextFault.TheVariants as fault
use Rattle.mari_publish.specs.declared.stream.ReadStop.{ReadStop}
use Rattle.mari_publish.specs.declared.stream.ReadStop.TheVariants.{Unopened, Fetch as OfFetch, Text as OfText, Part as OfPart, Memory as NoMemory}
use Rattle.mari_stream.specs.Coming.{AllCome, ComeState, ComesFrom}
use Rattle.mari_stream.specs.Forms.{Form, HasPart, HoldsParts, IsLineFault, IsTextFault, IsWhole, NoFault, NoPart}

-- ---- what was taken

-- the first parts of a text, or none
pub record TookFirst {K L P : Type 0} (form : Form K L P) (Took : List P → Type 0) (text : List ℕ) : Type 0 where
  pub parts : List P
  pub first : HoldsParts form text parts
  pub took : Took parts

-- all parts that are whole in a text
pub record TookAll {K L P : Type 0} (form : Form K L P) (Took : List P → Type 0) (text : List ℕ) : Type 0 where
  pub parts : List P
  pub first : HoldsParts form text parts
  pub none : NoPart form text parts
  pub took : Took parts

-- all parts of a text that is whole
pub record TookWhole {K L P : Type 0} (form : Form K L P) (Took : List P → Type 0) (text : List ℕ) : Type 0 where
  pub parts : List P
  pub whole : IsWhole form text parts
  pub took : Took parts

-- the parts of a text up to one that wasn't taken
pub record BrokeAt {K L P X : Type 0} (form : Form K L P) (Breaks : List P → P → X → Type 0) (text : List ℕ) (stop : X) : Type 0 where
  pub parts : List P
  pub part : P
  pub first : HoldsParts form text parts
  pub there : HasPart form text parts part
  pub broke : Breaks parts part stop

-- ---- which fault is reported of a page: up to `MOST_GIVEN` bytes of it are given

-- the first of its text, where the page may be given whole; of a longer page that of a whole line of the bytes that are
-- given, and never that the text is cut off
pub data IsReportedFault {K L P : Type 0} (form : Form K L P) (page : List ℕ) (fault : TextFault) : Type 0 where
  OfPage : length page ≤ most_given → IsTextFault form page fault → IsReportedFault form page fault
  OfGiven : most_given < length page → IsLineFault form (take most_given page) fault → IsReportedFault form page fault

-- a page has more bytes than are given in pieces, and as far as they are given no whole line has a fault
pub record IsTooLong {K L P : Type 0} (form : Form K L P) (page : List ℕ) : Type 0 where
  pub longer : most_given < length page
  pub no_fault : NoFault form (take most_given page)

-- ---- how the reading of a page ends

-- where the page isn't held
abbrev pub MissStates : {P X : Type 0} → (Took : List P → Type 0) → ReadStop X → Type 0
MissStates Took (Unopened fetch.Failed) = Took []
MissStates Took (Unopened fetch.Missing) = Took []
MissStates Took (Unopened fetch.TooLong) = ⊥
MissStates Took (Unopened fetch.Memory) = ⊥
MissStates Took (OfFetch f) = ⊥
MissStates Took (OfText f) = ⊥
MissStates Took (OfPart stop) = ⊥
MissStates Took NoMemory = Took []

-- where it is held, and isn't read to its end
abbrev pub StopStates : {K L P X : Type 0} → Form K L P → (Took : List P → Type 0) → (Breaks : List P → P → X → Type 0) → (page : List ℕ) → ReadStop X → Type 0
StopStates form Took Breaks page (Unopened fetch.Failed) = Took []
StopStates form Took Breaks page (Unopened fetch.Missing) = ⊥
StopStates form Took Breaks page (Unopened fetch.TooLong) = ⊥
StopStates form Took Breaks page (Unopened fetch.Memory) = ⊥
StopStates form Took Breaks page (OfFetch fetch.Failed) = TookFirst form Took page
StopStates form Took Breaks page (OfFetch fetch.Missing) = ⊥
StopStates form Took Breaks page (OfFetch fetch.TooLong) = IsTooLong form page × TookAll form Took (take most_given page)
StopStates form Took Breaks page (OfFetch fetch.Memory) = ⊥
StopStates form Took Breaks page (OfText f) = IsReportedFault form page f × TookAll form Took page
StopStates form Took Breaks page (OfPart stop) = BrokeAt form Breaks (take most_given page) stop
StopStates form Took Breaks page NoMemory = TookFirst form Took page

-- what is said of the page of a name, where pages are reported
abbrev pub ReadStates : {K L P X : Type 0} → Form K L P → (Took : List P → Type 0) → (Breaks : List P → P → X → Type 0)
    → Option (List ℕ) → Result (Unit {0}) (ReadStop X) → Type 0
ReadStates form Took Breaks None (Ok done) = ⊥
ReadStates form Took Breaks None (Err why) = MissStates Took why
ReadStates form Took Breaks (Some page) (Ok done) = (length page ≤ most_given) × TookWhole form Took page
ReadStates form Took Breaks (Some page) (Err why) = StopStates form Took Breaks page why

-- and on any shelf, of some text
abbrev pub SomeStates : {K L P X : Type 0} → Form K L P → (Took : List P → Type 0) → (Breaks : List P → P → X → Type 0)
    → Result (Unit {0}) (ReadStop X) → Type 0
SomeStates form Took Breaks (Ok done) = (text : List ℕ) × TookWhole form Took text
SomeStates form Took Breaks (Err (Unopened fetch.TooLong)) = ⊥
SomeStates form Took Breaks (Err (Unopened f)) = Took []
SomeStates form Took Breaks (Err (OfFetch fetch.Missing)) = ⊥
SomeStates form Took Breaks (Err (OfFetch f)) = (text : List ℕ) × TookFirst form Took text
SomeStates form Took Breaks (Err (OfText f)) = (text : List ℕ) × TookFirst form Took text
SomeStates form Took Breaks (Err (OfPart stop)) = (text : List ℕ) × BrokeAt form Breaks text stop
SomeStates form Took Breaks (Err NoMemory) = (text : List ℕ) × TookFirst form Took text

-- a fault of a line was answered as soon as it had come: one call on the shelf, the last, gave the piece that brought
-- it. No whole line of what was read before has a fault, the fault is that of what was read and the piece, and all that
-- stands after these on the page is left. What is left and how many calls were made, the shelf states; since nothing else is
-- known of a shelf, its state before can only be the one from which that call was made
pub record StopsAtFault {K L P S : Type 0} (form : Form K L P) (rest : S → Option (List ℕ)) (calls : S → ℕ) (page : List ℕ) (fault : TextFault)
    (shelf : S) : Type 0 where
  pub read : List ℕ
  pub piece : List ℕ
  pub left : List ℕ
  pub page_is : page ≡ read ++ (piece ++ left)
  pub no_fault : NoFault form read
  pub here : IsLineFault form (read ++ piece) fault
  pub few : length piece ≤ MOST_PIECE
  pub before : S
  pub all_left : rest before ≡ Some (piece ++ left)
  pub last_call : calls shelf ≡ counted (calls before)
  pub left_is : rest shelf ≡ Some left

-- nothing is read after a fault of a line; the end of the text is no fault of a line
abbrev pub ReadStops : {K L P S X : Type 0} → Form K L P → (rest : S → Option (List ℕ)) → (calls : S → ℕ) → (page : List ℕ) → S → ReadStop X → Type 0
ReadStops form rest calls page shelf (OfText (fault.BadLine n)) = StopsAtFault form rest calls page (fault.BadLine n) shelf
ReadStops form rest calls page shelf (OfText (fault.BadOrder n)) = StopsAtFault form rest calls page (fault.BadOrder n) shelf
ReadStops form rest calls page shelf (OfText (fault.Truncated n)) = ⊤
ReadStops form rest calls page shelf (OfText fault.Memory) = ⊤
ReadStops form rest calls page shelf (Unopened f) = ⊤
ReadStops form rest calls page shelf (OfFetch f) = ⊤
ReadStops form rest calls page shelf (OfPart stop) = ⊤
ReadStops form rest calls page shelf NoMemory = ⊤

-- ---- what has come

-- a text has come, and these parts of it were taken
pub record HasTaken {K L P : Type 0} (form : Form K L P) (Took : List P → Type 0) (text : List ℕ) (parts : List P) (come : ComeState K) : Type 0 where
  pub stands : ComesFrom form come text parts
  pub took : Took parts

-- all parts that have come were taken, and no whole line has a fault
pub record AllTaken {K L P : Type 0} (form : Form K L P) (Took : List P → Type 0) (text : List ℕ) (come : ComeState K) : Type 0 where
  pub parts : List P
  pub all : AllCome form come text parts
  pub took : Took parts

-- how far the text that has come is taken
abbrev pub PartsReport : {K L P X : Type 0} → Form K L P → (Took : List P → Type 0) → (Breaks : List P → P → X → Type 0)
    → List ℕ → ComeState K → Result (Unit {0}) (ReadStop X) → Type 0
PartsReport form Took Breaks text come (Ok done) = AllTaken form Took text come
PartsReport form Took Breaks text come (Err (Unopened f)) = ⊥
PartsReport form Took Breaks text come (Err (OfFetch f)) = ⊥
PartsReport form Took Breaks text come (Err (OfText f)) = IsLineFault form text f × TookAll form Took text
PartsReport form Took Breaks text come (Err (OfPart stop)) = BrokeAt form Breaks text stop
PartsReport form Took Breaks text come (Err NoMemory) = TookFirst form Took text

-- how far a page is taken that is read to its end, or as far as could be; and on any shelf
abbrev pub PiecesReport : {K L P X : Type 0} → Form K L P → (Took : List P → Type 0) → (Breaks : List P → P → X → Type 0)
    → List ℕ → ComeState K → Result (Unit {0}) (ReadStop X) → Type 0
PiecesReport form Took Breaks page come (Ok done) = (length page ≤ most_given) × AllTaken form Took page come
PiecesReport form Took Breaks page come (Err why) = StopStates form Took Breaks page why

abbrev pub SomePieces : {K L P X : Type 0} → Form K L P → (Took : List P → Type 0) → (Breaks : List P → P → X → Type 0)
    → ComeState K → Result (Unit {0}) (ReadStop X) → Type 0
SomePieces form Took Breaks come (Ok done) = (text : List ℕ) × AllTaken form Took text come
SomePieces form Took Breaks come (Err why) = SomeStates form Took Breaks (Err why)
