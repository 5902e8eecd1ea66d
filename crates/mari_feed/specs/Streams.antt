-- The feed of a page that is read in pieces: what is printed of it, by how the printing ends.
use Rattle.std.specs.Prelude.{◌≡◌, ◌≤◌, ◌⊎◌, ℕ, List, [], ◌∷◌, ◌++◌, length, Option, Some, None, Result, Ok, Err, ⊤}
use Rattle.std.specs.List.{AllByRecursion, flat_map}
use Rattle.mari_io.specs.Taken.{TookPart, then_took}
use Rattle.mari_io.specs.declared.shelf.Fetch.{Fetch}
use Rattle.mari_io.specs.declared.shelf.Fetch.TheVariants as fetch
use Rattle.mari_io.specs.Outside.{most_given}
use Rattle.mari_publish.specs.Faults.{IsText}
use Rattle.mari_publish.specs.Paged.{IsReportedFault, IsTooLong}
use Rattle.mari_publish.specs.Pieces.{HoldsParts, NoPart, parts_of}
use Rattle.mari_publish.specs.declared.fault.TextFault.{TextFault}
use Rattle.mari_publish.specs.declared.fault.TextFault.TheVariants as text_fault
use Rattle.mari_publish.specs.declared.publication.Part.{Part}
use Rattle.mari_publish.specs.declared.publication.Publication.{Publication}
use Rattle.mari_publish.specs.declared.stream.ReadStop.{ReadStop}
use Rattle.mari_publish.specs.declared.stream.ReadStop.TheVariants as read
use Rattle.mari_feed.specs.Texts.{IsLineOf, json_of}
use Rattle.mari_feed.specs.declared.stream.FeedStop.{FeedStop}
use Rattle.mari_feed.specs.declared.stream.FeedStop.TheVariants.{Fetch as OfFetch, Text as OfText, Sink as OfSink, Memory as NoMemory}

-- ---- what is printed

-- the line of a part
abbrev pub line_of : Part → List ℕ
line_of x = json_of x ++ 10 ∷ []

-- the lines of parts
abbrev pub feed_of : List Part → List ℕ
feed_of parts = flat_map line_of parts

-- without its line feed each line is JSON of its part, on one line; so it is read as that part, or memory runs out
abbrev pub AreReadBack : List Part → Type 0
AreReadBack parts = AllByRecursion (λ x. IsLineOf (json_of x) x) parts

-- the lines of the first parts of a text were taken, or of none
pub record TookFirst (text : List ℕ) (before after : Option (List ℕ)) : Type 0 where
  pub parts : List Part
  pub first : HoldsParts text parts
  pub back : AreReadBack parts
  pub took : after ≡ then_took before (feed_of parts)

-- the lines of all parts were taken that are whole in a text
pub record TookAll (text : List ℕ) (before after : Option (List ℕ)) : Type 0 where
  pub parts : List Part
  pub first : HoldsParts text parts
  pub none : NoPart text parts
  pub back : AreReadBack parts
  pub took : after ≡ then_took before (feed_of parts)

-- a first part of such lines was taken
pub record TookSome (text : List ℕ) (before after : Option (List ℕ)) : Type 0 where
  pub parts : List Part
  pub first : HoldsParts text parts
  pub back : AreReadBack parts
  pub took : TookPart before after (feed_of parts)

-- the lines of all parts of the publication were taken whose text this is
pub record TookFeed (text : List ℕ) (before after : Option (List ℕ)) : Type 0 where
  pub publication : Publication
  pub is : IsText text publication
  pub back : AreReadBack (parts_of publication)
  pub took : after ≡ then_took before (feed_of (parts_of publication))

-- how the printing ends where the page isn't held
abbrev pub MissStates : (before after : Option (List ℕ)) → FeedStop → Type 0
MissStates before after (OfFetch fetch.Failed) = after ≡ before
MissStates before after (OfFetch fetch.Missing) = after ≡ before
MissStates before after (OfFetch fetch.TooLong) = ⊥
MissStates before after (OfFetch fetch.Memory) = ⊥
MissStates before after (OfText f) = ⊥
MissStates before after OfSink = ⊥
MissStates before after NoMemory = after ≡ before

-- how it stops where it is held
abbrev pub StopStates : (page : List ℕ) → (before after : Option (List ℕ)) → FeedStop → Type 0
StopStates page before after (OfFetch fetch.Failed) = TookFirst page before after
StopStates page before after (OfFetch fetch.Missing) = ⊥
StopStates page before after (OfFetch fetch.TooLong) = IsTooLong page × TookFirst page before after
StopStates page before after (OfFetch fetch.Memory) = ⊥
StopStates page before after (OfText f) = IsReportedFault page f × TookAll page before after
StopStates page before after OfSink = TookSome page before after
StopStates page before after NoMemory = TookFirst page before after

-- what is said of the page and of what was taken
abbrev pub FeedStates : {T : Type 0} → Option (List ℕ) → (before after : Option (List ℕ)) → Result T FeedStop → Type 0
FeedStates None before after (Ok done) = ⊥
FeedStates None before after (Err why) = MissStates before after why
FeedStates (Some page) before after (Ok done) = (length page ≤ most_given) × TookFeed page before after
FeedStates (Some page) before after (Err why) = StopStates page before after why

-- where a text is read whole, the same is said of it: it is printed to its end, or the same fault is reported
abbrev pub SameAsRead : {T : Type 0} → Result Publication TextFault → Result T FeedStop → Type 0
SameAsRead (Ok p) (Ok done) = ⊤
SameAsRead (Ok p) (Err (OfText f)) = ⊥
SameAsRead (Err e) (Ok done) = e ≡ text_fault.Memory
SameAsRead (Err e) (Err (OfText f)) = (e ≡ f) ⊎ (e ≡ text_fault.Memory)
SameAsRead answer (Err (OfFetch f)) = ⊤
SameAsRead answer (Err OfSink) = ⊤
SameAsRead answer (Err NoMemory) = ⊤

-- ---- why it stopped

-- a call of the shelf gave this fault
abbrev pub IsFeedFetch : {T : Type 0} → Fetch → Result T FeedStop → Type 0
IsFeedFetch f (Err (OfFetch g)) = g ≡ f
IsFeedFetch f (Err (OfText g)) = ⊥
IsFeedFetch f (Err OfSink) = ⊥
IsFeedFetch f (Err NoMemory) = ⊥
IsFeedFetch f (Ok x) = ⊥

-- out of memory is reported as a fault of the shelf or of the text
abbrev pub IsWrapped : {T : Type 0} → Result T FeedStop → Type 0
IsWrapped (Err (OfFetch f)) = f ≡ fetch.Memory
IsWrapped (Err (OfText f)) = f ≡ text_fault.Memory
IsWrapped (Err OfSink) = ⊥
IsWrapped (Err NoMemory) = ⊥
IsWrapped (Ok x) = ⊥

-- by why the reading of the page does
abbrev pub feed_stop : ReadStop FeedStop → FeedStop
feed_stop (read.Unopened f) = OfFetch f
feed_stop (read.Fetch f) = OfFetch f
feed_stop (read.Text f) = OfText f
feed_stop (read.Part stop) = stop
feed_stop read.Memory = NoMemory

-- ---- what has come

-- a line was written, or a first part of it, or memory ran out
abbrev pub WroteText : {T : Type 0} → List ℕ → (before after : Option (List ℕ)) → Result T FeedStop → Type 0
WroteText line before after (Ok done) = after ≡ then_took before line
WroteText line before after (Err (OfFetch f)) = ⊥
WroteText line before after (Err (OfText f)) = ⊥
WroteText line before after (Err OfSink) = TookPart before after line
WroteText line before after (Err NoMemory) = after ≡ before

-- the lines of these parts were taken
abbrev pub PrintedLines : (before after : Option (List ℕ)) → List Part → Type 0
PrintedLines before after parts = after ≡ then_took before (feed_of parts)

-- and that of the next part wasn't, or a first part of it
abbrev pub BrokeLine : (before after : Option (List ℕ)) → List Part → Part → FeedStop → Type 0
BrokeLine before after parts x stop = WroteText {T = Unit {0}} (line_of x) (then_took before (feed_of parts)) after (Err stop)
