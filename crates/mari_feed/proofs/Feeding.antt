-- Parts that are printed as they come.
use Rattle.std.proofs.Common.{◌≡◌, ◌∙◌, ◌+◌, ℕ, List, [], ◌∷◌, ◌++◌, length, take, drop, Option, Some, None, Result, Ok, Err, ◌⊎◌, refl, sym, ap, subst, append-nil, arith}
use Rattle.std.specs.List.{AllByRecursion}
use Rattle.std.proofs.Math.Seq.{take-append-add}
use Rattle.std.proofs.lemmas.Grind.{flat_map-append}
use Rattle.std.proofs.lemmas.List.{take-append-drop}
use Rattle.mari_io.specs.Outside.{most_given}
use Rattle.mari_io.specs.Taken.{TookPart, then_took}
use Rattle.mari_io.specs.declared.shelf.Fetch.{Fetch}
use Rattle.mari_io.specs.declared.shelf.Fetch.TheVariants as fetch
use Rattle.mari_io.proofs.Taken.{took_both, took_nothing}
use Rattle.mari_publish.specs.Faults.{IsOutcome}
use Rattle.mari_publish.specs.Pieces.{HasPart, HoldsParts, parts_of}
use Rattle.mari_publish.specs.Ranges.{PartFits}
use Rattle.mari_publish.specs.Streams as read
use Rattle.mari_publish.specs.declared.fault.TextFault.{TextFault}
use Rattle.mari_publish.specs.declared.fault.TextFault.TheVariants as fault
use Rattle.mari_publish.specs.declared.publication.Part.{Part}
use Rattle.mari_publish.specs.declared.publication.Publication.{Publication}
use Rattle.mari_publish.specs.declared.stream.ReadStop.{ReadStop}
use Rattle.mari_publish.specs.declared.stream.ReadStop.TheVariants.{Unopened as ReadUnopened, Fetch as ReadFetch, Text as ReadText, Part as ReadPart, Memory as ReadMemory}
use Rattle.mari_publish.proofs.FirstParts.{parts_fit}
use Rattle.mari_publish.proofs.MoreText.{parts_stay}
use Rattle.mari_publish.proofs.Outcomes.{text_answer}
use Rattle.mari_publish.proofs.Paging.{same-fault}
use Rattle.mari_publish.proofs.PartsGiven.{gives_nothing}
use Rattle.mari_feed.specs.Streams.{AreReadBack, BrokeLine, FeedStates, MissStates, PrintedLines, SameAsRead, StopStates, TookAll, TookFeed, TookFirst, TookSome, feed_of, feed_stop, line_of}
use Rattle.mari_feed.specs.declared.stream.FeedStop.{FeedStop}
use Rattle.mari_feed.specs.declared.stream.FeedStop.TheVariants.{Fetch as OfFetch, Text as OfText, Sink as OfSink, Memory as NoMemory}
use Rattle.mari_feed.proofs.Plainly.{line_is}

-- ---- each line is read back

lines_back : (parts : List Part) → AllByRecursion PartFits parts → AreReadBack parts
lines_back [] fit = tt
lines_back (x ∷ parts) fit = (line_is x fit.0, lines_back parts fit.1)

pub read_back : (text : List ℕ) (parts : List Part) → HoldsParts text parts → AreReadBack parts
read_back text parts h = lines_back parts (parts_fit text parts h)

-- ---- what was taken

feed_more : (parts : List Part) (x : Part) → feed_of (parts ++ x ∷ []) ≡ feed_of parts ++ line_of x
feed_more parts x = flat_map-append line_of parts (x ∷ []) ∙ ap (λ (t : List ℕ). feed_of parts ++ t) (append-nil (line_of x))

module _ (before after : Option (List ℕ)) where
  abbrev Took : List Part → Type 0
  Took parts = PrintedLines before after parts

  abbrev Breaks : List Part → Part → FeedStop → Type 0
  Breaks parts x stop = BrokeLine before after parts x stop

  nothing_taken : Took [] → after ≡ before
  nothing_taken took = took ∙ sym (took_nothing before)

  -- of the page, where nothing was taken
  pub took_none : (page : List ℕ) → Took [] → TookFirst page before after
  took_none page took = grind (arith, gives_nothing)

  took_first : (page : List ℕ) → read.TookFirst Took page → TookFirst page before after
  took_first page t = record { parts = t.parts; first = t.first; back = read_back page t.parts t.first; took = t.took }

  took_all : (page : List ℕ) → read.TookAll Took page → TookAll page before after
  took_all page t = record { parts = t.parts; first = t.first; none = t.none; back = read_back page t.parts t.first; took = t.took }

  took_feed : (page : List ℕ) → read.TookPublication Took page → TookFeed page before after
  took_feed page t = record { publication = t.publication; is = t.is; back = read_back page (parts_of t.publication) t.first; took = t.took }

  -- what holds of the bytes that are given holds of the page
  holds : (page : List ℕ) (parts : List Part) → HoldsParts (take most_given page) parts → HoldsParts page parts
  holds page parts h = subst (λ (t : List ℕ). HoldsParts t parts) (take-append-drop most_given page) (parts_stay (take most_given page) (drop most_given page) parts h)

  -- the line of a part was begun
  line_begun : (page : List ℕ) (parts : List Part) (x : Part) → HasPart page parts x → TookPart (then_took before (feed_of parts)) after (line_of x) → TookSome page before after
  line_begun page parts x has cut = record {
    parts = parts ++ x ∷ [];
    first = has;
    back = read_back page (parts ++ x ∷ []) has;
    took = (
      length (feed_of parts) + cut.0,
      took_both before (then_took before (feed_of parts)) after (feed_of parts) (take cut.0 (line_of x)) refl cut.1
          ∙ ap (then_took before) (sym (ap (take (length (feed_of parts) + cut.0)) (feed_more parts x) ∙ take-append-add (feed_of parts) (line_of x) cut.0)),
    );
  }

  -- a line wasn't written
  broke : (page : List ℕ) (parts : List Part) (x : Part) (stop : FeedStop) → HoldsParts page parts → HasPart page parts x → Breaks parts x stop → StopStates page before after stop
  broke page parts x OfSink first there b = line_begun page parts x there b
  broke page parts x NoMemory first there b = record { parts = parts; first = first; back = read_back page parts first; took = b }
  broke page parts x stop first there b = grind arith

  -- how the printing ends, by how the reading does
  stopped : (page : List ℕ) (stop : ReadStop FeedStop) → read.StopStates Took Breaks page stop → StopStates page before after (feed_stop stop)
  stopped page (ReadUnopened fetch.Failed) h = took_none page h
  stopped page (ReadFetch fetch.Failed) h = took_first page h
  stopped page (ReadFetch fetch.TooLong) h =
      let first = holds page h.1.parts h.1.first in
      (h.0, record { parts = h.1.parts; first = first; back = read_back page h.1.parts first; took = h.1.took })
  stopped page (ReadText f) h = (h.0, took_all page h.1)
  stopped page (ReadPart stop) h = broke page h.parts h.part stop (holds page h.parts h.first) (holds page (h.parts ++ h.part ∷ []) h.there) h.broke
  stopped page ReadMemory h = took_first page h
  stopped page stop h = grind arith

  missed : (stop : ReadStop FeedStop) → read.MissStates Took stop → MissStates before after (feed_stop stop)
  missed stop h = grind (arith, nothing_taken)

  pub feed_stopped : (page : Option (List ℕ)) (stop : ReadStop FeedStop) → read.ReadStates Took Breaks page (Err stop) → FeedStates {T = Unit {0}} page before after (Err (feed_stop stop))
  feed_stopped None stop h = missed stop h
  feed_stopped (Some page) stop h = stopped page stop h

  pub feed_printed : (page : Option (List ℕ)) (done : Unit {0}) → read.ReadStates Took Breaks page (Ok done) → FeedStates page before after (Ok done)
  feed_printed page done h = grind (arith, took_feed)

-- ---- the same as reading the page whole

fault_same : (T : Type 0) (f : TextFault) (answer : Result Publication TextFault) → (answer ≡ Err f) ⊎ (answer ≡ Err fault.Memory) → SameAsRead {T = T} answer (Err (OfText f))
fault_same T f answer h = grind arith

whole_same : {T : Type 0} (done : T) (p : Publication) (answer : Result Publication TextFault) → (answer ≡ Ok p) ⊎ (answer ≡ Err fault.Memory) → SameAsRead answer (Ok done)
whole_same done p answer e = grind arith

fetch_same : (T : Type 0) (f : Fetch) (answer : Result Publication TextFault) → SameAsRead {T = T} answer (Err (OfFetch f))
fetch_same T f (Ok p) = tt
fetch_same T f (Err e) = tt

sink_same : (T : Type 0) (answer : Result Publication TextFault) → SameAsRead {T = T} answer (Err OfSink)
sink_same T (Ok p) = tt
sink_same T (Err e) = tt

memory_same : (T : Type 0) (answer : Result Publication TextFault) → SameAsRead {T = T} answer (Err NoMemory)
memory_same T (Ok p) = tt
memory_same T (Err e) = tt

same_read : (T : Type 0) (page : List ℕ) (start now : Option (List ℕ)) (answer : Result Publication TextFault)
    → IsOutcome page answer → (result : Result T FeedStop) → FeedStates (Some page) start now result
    → SameAsRead answer result
same_read T page start now answer o (Ok done) (short, took) = whole_same done took.publication answer (text_answer page answer o took.publication took.is)
same_read T page start now answer o (Err (OfText f)) (reported, took) = fault_same T f answer (same-fault page answer f o reported)
same_read T page start now answer o (Err (OfFetch f)) h = fetch_same T f answer
same_read T page start now answer o (Err OfSink) h = sink_same T answer
same_read T page start now answer o (Err NoMemory) h = memory_same T answer

pub same_as_read : (T : Type 0) (reported : Option (List ℕ)) (start now : Option (List ℕ)) (result : Result T FeedStop)
    → FeedStates reported start now result → (page : List ℕ) → reported ≡ Some page
    → (answer : Result Publication TextFault) → IsOutcome page answer → SameAsRead answer result
same_as_read T reported start now result states page is answer o = same_read T page start now answer o result (subst (λ p. FeedStates p start now result) is states)
