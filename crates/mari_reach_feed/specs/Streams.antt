-- The feed of a page that is read in pieces: what is printed of it, by how the printing ends.
use Rattle.std.specs.Prelude.{◌≡◌, ◌≤◌, ℕ, List, [], ◌∷◌, ◌++◌, length, Option, Some, None, Result, Ok, Err}
use Rattle.std.specs.List.{AllByRecursion, flat_map}
use Rattle.mari_io.specs.Taken.{TookPart, then_took}
use Rattle.mari_io.specs.declared.shelf.Fetch.TheVariants as fetch
use Rattle.mari_io.specs.Outside.{most_given}
use Rattle.mari_stream.specs.Forms.{HoldsParts, NoPart}
use Rattle.mari_stream.specs.Streams.{IsReportedFault, IsTooLong}
use Rattle.mari_reach_text.specs.Order.{reach_form}
use Rattle.mari_reach_text.specs.Texts.{IsReachText, ReachPublication, reach_parts_of}
use Rattle.mari_reach_text.specs.declared.kept.ReachPart.{ReachPart}
use Rattle.mari_feed.specs.Streams.{MissStates, WroteText}
use Rattle.mari_feed.specs.declared.stream.FeedStop.{FeedStop}
use Rattle.mari_feed.specs.declared.stream.FeedStop.TheVariants.{Fetch as OfFetch, Text as OfText, Sink as OfSink, Memory as NoMemory}
use Rattle.mari_reach_feed.specs.Texts.{IsReachLine}
use Rattle.mari_reach_feed.specs.Values.{reach_json_of}

-- ---- what is printed

-- the line of a part
abbrev pub reach_line_of : ReachPart → List ℕ
reach_line_of x = reach_json_of x ++ 10 ∷ []

-- the lines of parts
abbrev pub reach_feed_of : List ReachPart → List ℕ
reach_feed_of parts = flat_map reach_line_of parts

-- without its line feed each line is JSON of its part, on one line
abbrev pub AreReachLines : List ReachPart → Type 0
AreReachLines parts = AllByRecursion (λ x. IsReachLine (reach_json_of x) x) parts

-- the lines of the first parts of a text were taken, or of none
pub record TookFirst (text : List ℕ) (before after : Option (List ℕ)) : Type 0 where
  pub parts : List ReachPart
  pub first : HoldsParts reach_form text parts
  pub lines : AreReachLines parts
  pub took : after ≡ then_took before (reach_feed_of parts)

-- the lines of all parts were taken that are whole in a text
pub record TookAll (text : List ℕ) (before after : Option (List ℕ)) : Type 0 where
  pub parts : List ReachPart
  pub first : HoldsParts reach_form text parts
  pub none : NoPart reach_form text parts
  pub lines : AreReachLines parts
  pub took : after ≡ then_took before (reach_feed_of parts)

-- a first part of such lines was taken
pub record TookSome (text : List ℕ) (before after : Option (List ℕ)) : Type 0 where
  pub parts : List ReachPart
  pub first : HoldsParts reach_form text parts
  pub lines : AreReachLines parts
  pub took : TookPart before after (reach_feed_of parts)

-- the lines of all parts of the publication were taken whose text this is
pub record TookFeed (text : List ℕ) (before after : Option (List ℕ)) : Type 0 where
  pub publication : ReachPublication
  pub is : IsReachText text publication
  pub lines : AreReachLines (reach_parts_of publication)
  pub took : after ≡ then_took before (reach_feed_of (reach_parts_of publication))

-- how the printing stops where the page is held
abbrev pub StopStates : (page : List ℕ) → (before after : Option (List ℕ)) → FeedStop → Type 0
StopStates page before after (OfFetch fetch.Failed) = TookFirst page before after
StopStates page before after (OfFetch fetch.Missing) = ⊥
StopStates page before after (OfFetch fetch.TooLong) = IsTooLong reach_form page × TookFirst page before after
StopStates page before after (OfFetch fetch.Memory) = ⊥
StopStates page before after (OfText f) = IsReportedFault reach_form page f × TookAll page before after
StopStates page before after OfSink = TookSome page before after
StopStates page before after NoMemory = TookFirst page before after

-- what is said of the page and of what was taken
abbrev pub FeedStates : {T : Type 0} → Option (List ℕ) → (before after : Option (List ℕ)) → Result T FeedStop → Type 0
FeedStates None before after (Ok done) = ⊥
FeedStates None before after (Err why) = MissStates before after why
FeedStates (Some page) before after (Ok done) = (length page ≤ most_given) × TookFeed page before after
FeedStates (Some page) before after (Err why) = StopStates page before after why

-- ---- what has come

-- the lines of these parts were taken
abbrev pub PrintedLines : (before after : Option (List ℕ)) → List ReachPart → Type 0
PrintedLines before after parts = after ≡ then_took before (reach_feed_of parts)

-- and that of the next part wasn't, or a first part of it
abbrev pub BrokeLine : (before after : Option (List ℕ)) → List ReachPart → ReachPart → FeedStop → Type 0
BrokeLine before after parts x stop = WroteText {T = Unit {0}} (reach_line_of x) (then_took before (reach_feed_of parts)) after (Err stop)
