-- Parts that are printed as they come.
use Rattle.std.proofs.Common.{◌≡◌, ◌∙◌, ◌+◌, ℕ, List, [], ◌∷◌, ◌++◌, true, length, take, drop, Option, Some, None, Result, Ok, Err, refl, sym, ap, subst, append_assoc, append-nil}
use Rattle.std.specs.List.{AllByRecursion}
use Rattle.std.proofs.Math.Seq.{take-append-add}
use Rattle.std.proofs.lemmas.Grind.{flat_map-append}
use Rattle.std.proofs.lemmas.List.{take-append-drop}
use Rattle.mari_io.specs.Outside.{most_given}
use Rattle.mari_io.specs.Taken.{TookPart, then_took}
use Rattle.mari_io.specs.declared.shelf.Fetch.TheVariants as fetch
use Rattle.mari_io.proofs.Taken.{took_both, took_nothing}
use Rattle.mari_publish.specs.declared.stream.ReadStop.{ReadStop}
use Rattle.mari_publish.specs.declared.stream.ReadStop.TheVariants.{Unopened as ReadUnopened, Fetch as ReadFetch, Text as ReadText, Part as ReadPart, Memory as ReadMemory}
use Rattle.mari_reach_lines.specs.Spelling.{text_of_reach_lines}
use Rattle.mari_reach_lines.specs.declared.line.ReachLine.{ReachLine}
use Rattle.mari_stream.specs.Forms.{Follow, HasPart, HoldsParts, text_by}
use Rattle.mari_stream.specs.Streams as read
use Rattle.mari_reach_text.specs.Order.{nothing_reached, reach_form}
use Rattle.mari_reach_text.specs.Texts.{ReachPublication, reach_parts_of}
use Rattle.mari_reach_text.specs.declared.kept.ReachKept.{ReachKept}
use Rattle.mari_reach_text.specs.declared.kept.ReachPart.{ReachPart}
use Rattle.mari_reach_text.proofs.Mirrors.{mirrors}
use Rattle.mari_reach_text.proofs.Parts.{done_parts, made}
use Rattle.mari_reach_text.proofs.Same.{text_of_parts}
use Rattle.mari_feed.specs.Streams.{MissStates, feed_stop}
use Rattle.mari_feed.specs.declared.stream.FeedStop.{FeedStop}
use Rattle.mari_feed.specs.declared.stream.FeedStop.TheVariants.{Fetch as OfFetch, Text as OfText, Sink as OfSink, Memory as NoMemory}
use Rattle.mari_reach_feed.specs.Streams.{AreReachLines, BrokeLine, FeedStates, PrintedLines, StopStates, TookAll, TookFeed, TookFirst, TookSome, reach_feed_of, reach_line_of}
use Rattle.mari_reach_feed.specs.Texts.{ReachPartFits}
use Rattle.mari_reach_feed.proofs.Fitting.{reach_parts_fit}
use Rattle.mari_reach_feed.proofs.Plainly.{reach_line_is}

-- ---- each line is JSON of its part

lines_are : (xs : List ReachPart) → AllByRecursion ReachPartFits xs → AreReachLines xs
lines_are [] fit = tt
lines_are (x ∷ xs) fit = (reach_line_is x fit.0, lines_are xs fit.1)

lines_of : (text : List ℕ) (xs : List ReachPart) → HoldsParts reach_form text xs → AreReachLines xs
lines_of text xs h = lines_are xs (reach_parts_fit text xs h)

-- ---- what was taken

feed_more : (xs : List ReachPart) (x : ReachPart) → reach_feed_of (xs ++ x ∷ []) ≡ reach_feed_of xs ++ reach_line_of x
feed_more xs x = flat_map-append reach_line_of xs (x ∷ []) ∙ ap (λ (t : List ℕ). reach_feed_of xs ++ t) (append-nil (reach_line_of x))

-- one part more was printed
pub printed_more : (before between after : Option (List ℕ)) (xs : List ReachPart) (x : ReachPart) → PrintedLines before between xs → after ≡ then_took between (reach_line_of x)
    → PrintedLines before after (xs ++ x ∷ [])
printed_more before between after xs x took e =
    took_both before between after (reach_feed_of xs) (reach_line_of x) took e ∙ ap (then_took before) (sym (feed_more xs x))

-- with the last line the parts are those of a publication
publication_of : (lines : List ReachLine) (xs : List ReachPart) (s : ReachKept) → Follow reach_form lines xs s → reach_form.is_done s ≡ true → (p : ReachPublication) × (xs ≡ reach_parts_of p)
publication_of lines xs s f d = let g = (mirrors lines xs s f).gives in let a = done_parts xs g.so_far s.kept.held g.given d in (made g.so_far a.blocks, a.are)

module _ (before after : Option (List ℕ)) where
  abbrev Took : List ReachPart → Type 0
  Took xs = PrintedLines before after xs

  abbrev Breaks : List ReachPart → ReachPart → FeedStop → Type 0
  Breaks xs x stop = BrokeLine before after xs x stop

  nothing_taken : Took [] → after ≡ before
  nothing_taken took = took ∙ sym (took_nothing before)

  -- of the page, where nothing was taken
  pub took_none : (page : List ℕ) → Took [] → TookFirst page before after
  took_none page took = record {
    parts = [];
    first = record { lines = []; rest = page; kept = nothing_reached; is = refl; follow = record { in_range = tt; gives = refl } };
    lines = tt;
    took = took;
  }

  took_first : (page : List ℕ) → read.TookFirst reach_form Took page → TookFirst page before after
  took_first page t = record { parts = t.parts; first = t.first; lines = lines_of page t.parts t.first; took = t.took }

  took_all : (page : List ℕ) → read.TookAll reach_form Took page → TookAll page before after
  took_all page t = record { parts = t.parts; first = t.first; none = t.none; lines = lines_of page t.parts t.first; took = t.took }

  -- what holds of the bytes that are given holds of the page
  holds : (page : List ℕ) (xs : List ReachPart) → HoldsParts reach_form (take most_given page) xs → HoldsParts reach_form page xs
  holds page xs h = record {
    lines = h.lines;
    rest = h.rest ++ drop most_given page;
    kept = h.kept;
    is = sym (take-append-drop most_given page) ∙ ap (λ (t : List ℕ). t ++ drop most_given page) h.is ∙ append_assoc (text_by reach_form h.lines) h.rest (drop most_given page);
    follow = h.follow;
  }

  -- the line of a part was begun
  line_begun : (page : List ℕ) (xs : List ReachPart) (x : ReachPart) → HasPart reach_form page xs x
      → TookPart (then_took before (reach_feed_of xs)) after (reach_line_of x) → TookSome page before after
  line_begun page xs x has cut = record {
    parts = xs ++ x ∷ [];
    first = has;
    lines = lines_of page (xs ++ x ∷ []) has;
    took = (
      length (reach_feed_of xs) + cut.0,
      took_both before (then_took before (reach_feed_of xs)) after (reach_feed_of xs) (take cut.0 (reach_line_of x)) refl cut.1
          ∙ ap (then_took before) (sym (ap (take (length (reach_feed_of xs) + cut.0)) (feed_more xs x) ∙ take-append-add (reach_feed_of xs) (reach_line_of x) cut.0)),
    );
  }

  -- a line wasn't written
  broke : (page : List ℕ) (xs : List ReachPart) (x : ReachPart) (stop : FeedStop) → HoldsParts reach_form page xs → HasPart reach_form page xs x → Breaks xs x stop → StopStates page before after stop
  broke page xs x (OfFetch f) first there b = absurd b
  broke page xs x (OfText f) first there b = absurd b
  broke page xs x OfSink first there b = line_begun page xs x there b
  broke page xs x NoMemory first there b = record { parts = xs; first = first; lines = lines_of page xs first; took = b }

  -- how the printing ends, by how the reading does
  stopped : (page : List ℕ) (stop : ReadStop FeedStop) → read.StopStates reach_form Took Breaks page stop → StopStates page before after (feed_stop stop)
  stopped page (ReadUnopened fetch.Failed) h = took_none page h
  stopped page (ReadUnopened fetch.Missing) h = absurd h
  stopped page (ReadUnopened fetch.TooLong) h = absurd h
  stopped page (ReadUnopened fetch.Memory) h = absurd h
  stopped page (ReadFetch fetch.Failed) h = took_first page h
  stopped page (ReadFetch fetch.Missing) h = absurd h
  stopped page (ReadFetch fetch.TooLong) h =
      let first = holds page h.1.parts h.1.first in
      (h.0, record { parts = h.1.parts; first = first; lines = lines_of page h.1.parts first; took = h.1.took })
  stopped page (ReadFetch fetch.Memory) h = absurd h
  stopped page (ReadText f) h = (h.0, took_all page h.1)
  stopped page (ReadPart stop) h = broke page h.parts h.part stop (holds page h.parts h.first) (holds page (h.parts ++ h.part ∷ []) h.there) h.broke
  stopped page ReadMemory h = took_first page h

  missed : (stop : ReadStop FeedStop) → read.MissStates Took stop → MissStates before after (feed_stop stop)
  missed (ReadUnopened fetch.Failed) h = nothing_taken h
  missed (ReadUnopened fetch.Missing) h = nothing_taken h
  missed (ReadUnopened fetch.TooLong) h = absurd h
  missed (ReadUnopened fetch.Memory) h = absurd h
  missed (ReadFetch f) h = absurd h
  missed (ReadText f) h = absurd h
  missed (ReadPart stop) h = absurd h
  missed ReadMemory h = nothing_taken h

  pub feed_stopped : (page : Option (List ℕ)) (stop : ReadStop FeedStop) → read.ReadStates reach_form Took Breaks page (Err stop) → FeedStates {T = Unit {0}} page before after (Err (feed_stop stop))
  feed_stopped None stop h = missed stop h
  feed_stopped (Some page) stop h = stopped page stop h

  took_feed : (page : List ℕ) → read.TookWhole reach_form Took page → TookFeed page before after
  took_feed page t =
      let w = t.whole in
      let made = publication_of w.lines t.parts w.kept w.follow w.done in
      let both = text_of_parts w.lines t.parts w.kept made.0 w.follow w.done made.1 in
      let first : HoldsParts reach_form page t.parts = record { lines = w.lines; rest = []; kept = w.kept; is = w.is ∙ sym (append-nil _); follow = w.follow } in
      record {
        publication = made.0;
        is = record { has = both.1; is = w.is ∙ ap text_of_reach_lines both.0 };
        lines = subst AreReachLines made.1 (lines_of page t.parts first);
        took = t.took ∙ ap (λ xs. then_took before (reach_feed_of xs)) made.1;
      }

  pub feed_printed : (page : Option (List ℕ)) (done : Unit {0}) → read.ReadStates {X = FeedStop} reach_form Took Breaks page (Ok done) → FeedStates page before after (Ok done)
  feed_printed None done h = absurd h
  feed_printed (Some page) done h = (h.0, took_feed page h.1)
