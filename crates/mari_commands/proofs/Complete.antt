-- What the words and the pages decide is what the answer is, unless a fetch or a write failed or there was no memory.
use Rattle.std.proofs.Common.{◌≡◌, ◌∙◌, inl, inr, ℕ, List, Option, Some, None, arith, refl, subst, sym}
use Rattle.std.specs.Prelude.{◌==◌, ◌≤◌, length, Bool, true, false, if◌then◌else◌, Result, Ok, Err}
use lib.Chars.{codes}
use Rattle.mari_units.specs.declared.faults.Refusal.{Refusal}
use Rattle.mari_io.specs.declared.shelf.Fetch.TheVariants as fetch
use Rattle.mari_io.specs.Outside.{Pages, page_of, most_given}
use Rattle.mari_publish.specs.declared.fault.TextFault.{TextFault}
use Rattle.mari_publish.specs.declared.publication.Publication.{Publication}
use Rattle.mari_publish.specs.Faults.{IsText}
use Rattle.mari_remain.specs.declared.books.Books.{Books}
use Rattle.mari_day.specs.Day.{HasEnough}
use Rattle.mari_day.specs.declared.day.DayEnd.{DayEnd}
use Rattle.mari_day.specs.declared.day.DayEnd.TheVariants as end
use Rattle.mari_day.specs.declared.files.TheConstants.{PUBLICATION}
use Rattle.mari_day.specs.Files.{Gap}
use Rattle.mari_day.specs.Files.Gap.{NotHeld, OverLimit}
use Rattle.mari_day.proofs.Enough.{all-published}
use Rattle.mari_publish.specs.Paged.{IsReportedFault}
use Rattle.mari_publish.proofs.Paging.{long-none, no-fault-of-text, one-fault, reported-first}
use Rattle.mari_words.specs.Asked.{Asked}
use Rattle.mari_feed.specs.Streams.{FeedStates}
use Rattle.mari_feed.specs.declared.stream.FeedStop.{FeedStop}
use Rattle.mari_feed.specs.declared.stream.FeedStop.TheVariants as stop
use Rattle.mari_capacity.specs.declared.ending.ValueEnd.{ValueEnd}
use Rattle.mari_capacity.specs.declared.ending.ValueEnd.TheVariants as values
use Rattle.mari_capacity.specs.Ends.{IsEndOf}
use Rattle.mari_split.specs.Split.{HoldsIslands}
use Rattle.mari_split.proofs.Enough.{all_published}
use Rattle.mari_words.specs.Asked.Asked.{Feed}
use Rattle.mari_commands.specs.declared.outcome.Way.{Way}
use Rattle.mari_commands.specs.declared.outcome.Way.TheVariants.{Whole, Islands}
use Rattle.mari_commands.specs.declared.outcome.Outcome.{Outcome}
use Rattle.mari_commands.specs.declared.outcome.Outcome.TheVariants.{Day, Values, NoPage, Refused, Memory as NoMemory}
use Rattle.mari_answers.specs.declared.status.Status.{Status}
use Rattle.mari_answers.specs.declared.status.Status.TheVariants as status
use Rattle.mari_commands.specs.Commands.{EndsValues, HasBooksToClear, IsFeedable, IsMigratable, IsReadable, LacksPage, RefusesFeed, RefusesFiles, RefusesText, fetch_of}
use Rattle.mari_answers.specs.Texts.{text_refusal}
use Rattle.mari_commands.specs.Headline.{HasBudget}
use Rattle.mari_commands.specs.Outcome.{IsDayOf, IsReportedValues, Reported, Says, day_status}
use Rattle.mari_answers.specs.Reports.{Reports, ReportsStop, ReportsText, publication_path}
use Rattle.mari_answers.specs.Lines.{file_line, refused_line}
use Rattle.mari_commands.specs.Program.{IsDayStatus, IsStatus, IsVerdictStatus, OrFault, gap_status}
use Rattle.mari_commands.specs.Splits.{EndsBy, HasIslandBudget, IsSplittable}
use Rattle.mari_commands.specs.Values.{value_status}
use Rattle.mari_commands.proofs.Reporting.{or-fault}
use Rattle.mari_commands.proofs.Comes.{Comes, IsAText, IsAVerdict, IsExcused, IsFeedGap, IsGapOf, IsRefusal, day-comes, gap-comes, migrated-comes, refusal-comes, text-comes, values-come, verdict-comes}

module _ (shown : Option Pages) (late : Type 0) (before after : Option (List ℕ)) (result : Status) where
  pub excused : (Q : Status → Type 0) (o : Outcome) → IsExcused o → Reported shown late o before after result → OrFault Q result
  excused Q o x r = grind arith

  pub same-report : (o p : Outcome) → o ≡ p → Reported shown late o before after result → Reported shown late p before after result
  same-report o p e r = let P : Outcome → Type 0 = λ x. Reported shown late x before after result in subst P e r

  refused-answer : (o : Outcome) (refusal : Refusal) → Comes (IsRefusal refusal) o → Reported shown late o before after result → OrFault (IsStatus (status.Refused refusal)) result
  refused-answer o refusal (inl e) r = or-fault before after result (IsStatus (status.Refused refusal)) (refused_line refusal) (status.Refused refusal) (same-report o (Refused refusal) e r) (inl refl)
  refused-answer o refusal (inr x) r = excused (IsStatus (status.Refused refusal)) o x r

  gap-report : (k : ℕ) (gap : Gap) → Reported shown late (NoPage k (fetch_of gap)) before after result → OrFault (IsStatus (gap_status gap)) result
  gap-report k NotHeld r = or-fault before after result (IsStatus status.Missing) (file_line (codes "missing") k) status.Missing r (inl refl)
  gap-report k OverLimit r = or-fault before after result (IsStatus status.TooLong) (file_line (codes "toolong") k) status.TooLong r (inl refl)

  gap-of-answer : (o : Outcome) (gap : Gap) → Comes (IsGapOf gap) o → Reported shown late o before after result → OrFault (IsStatus (gap_status gap)) result
  gap-of-answer o gap (inl (k, e)) r = gap-report k gap (same-report o (NoPage k (fetch_of gap)) e r)
  gap-of-answer o gap (inr x) r = excused (IsStatus (gap_status gap)) o x r

  text-report : (o : Outcome) → IsAText o → Reported shown late o before after result → OrFault (IsStatus status.Done) result
  text-report o x r = grind arith

  text-of-answer : (o : Outcome) → Comes IsAText o → Reported shown late o before after result → OrFault (IsStatus status.Done) result
  text-of-answer o (inl x) r = text-report o x r
  text-of-answer o (inr x) r = excused (IsStatus status.Done) o x r

  verdict-report : (o : Outcome) → IsAVerdict o → Reported shown late o before after result → OrFault IsVerdictStatus result
  verdict-report o x r = grind arith

  verdict-of-answer : (o : Outcome) → Comes IsAVerdict o → Reported shown late o before after result → OrFault IsVerdictStatus result
  verdict-of-answer o (inl x) r = verdict-report o x r
  verdict-of-answer o (inr x) r = excused IsVerdictStatus o x r

  pub day-end : (unpublished : Bool) → OrFault IsDayStatus (if unpublished then status.Done else status.Unpublished)
  day-end true = inl (inl refl)
  day-end false = inl (inr refl)

  ended : (e : DayEnd) → OrFault IsDayStatus (day_status e)
  ended (end.Done published unpublished) = day-end (unpublished == 0)
  ended end.WriteFault = inr (inr (inl refl))
  ended end.Memory = inr (inr (inr refl))

  day-of-answer : (o : Outcome) (way : Way) (books : Books) (nodes workers : ℕ) → Comes (IsDayOf way books nodes workers) o
      → Reported shown late o before after result → OrFault IsDayStatus result
  day-of-answer (Day job) way books nodes workers (inl is) r = let P : Status → Type 0 = λ x. OrFault IsDayStatus x in subst P (sym r.status) (ended r.ended)
  day-of-answer o way books nodes workers (inr x) r = excused IsDayStatus o x r
  day-of-answer _ way books nodes workers (inl is) r = absurd is

  -- the budget holds the search tree of each market that is cleared in this way
  abbrev IsEnoughBy : Way → Books → (nodes : ℕ) → Type 0
  IsEnoughBy Whole books nodes = HasEnough books nodes
  IsEnoughBy Islands books nodes = HoldsIslands books nodes

  none-left : (unpublished : ℕ) → unpublished ≡ 0 → OrFault (IsStatus status.Done) (if unpublished == 0 then status.Done else status.Unpublished)
  none-left unpublished none = rw none (inl refl)

  -- then every run is published
  whole-end : (way : Way) (e : DayEnd) (books : Books) (nodes : ℕ) → EndsBy way books nodes before after e → IsEnoughBy way books nodes → OrFault (IsStatus status.Done) (day_status e)
  whole-end Whole (end.Done published unpublished) books nodes w enough = none-left unpublished (w.printed.unpublished ∙ all-published books nodes w.printed.publication w.printed.is_day enough)
  whole-end Islands (end.Done published unpublished) books nodes w enough = none-left unpublished (w.is_text.others ∙ all_published books nodes w.is_text.blocks w.is_text.day enough)
  whole-end way end.WriteFault books nodes w enough = inr (inr (inl refl))
  whole-end way end.Memory books nodes w enough = inr (inr (inr refl))

  whole-answer : (o : Outcome) (way : Way) (books : Books) (nodes workers : ℕ) → IsEnoughBy way books nodes
      → Comes (IsDayOf way books nodes workers) o → Reported shown late o before after result
      → OrFault (IsStatus status.Done) result
  whole-answer (Day job) way books nodes workers enough (inl is) r = grind (arith, whole-end)
  whole-answer o way books nodes workers enough (inr x) r = excused (IsStatus status.Done) o x r
  whole-answer _ way books nodes workers enough (inl is) r = absurd is

  -- how the values of limits end, by their page
  values-report : (o : Outcome) (books : Books) (more : ℕ) (page : Option (List ℕ)) (end : ValueEnd)
      → IsReportedValues books more page o → IsEndOf books page end → Reported shown late o before after result
      → OrFault (IsStatus (value_status end)) result
  values-report (Values v) books more page end states is r = grind (arith, or-fault)
  values-report NoMemory books more page end states is r = inr (inr (inr r.0))
  values-report _ books more page end states is r = absurd states

  -- how a feed ends, by its page
  module _ (Q : Status → Type 0) (between : Option (List ℕ)) where
    fetch-failed : Reports (file_line (codes "readfault") PUBLICATION) status.ReadFault between after result → OrFault Q result
    fetch-failed r = or-fault between after result Q (file_line (codes "readfault") PUBLICATION) status.ReadFault r (inr (inl refl))

    wanted : (text : List ℕ) (w : Status) → Q w → Reports text w between after result → OrFault Q result
    wanted text w q r = or-fault between after result Q text w r (inl q)

  fault-report : (f : TextFault) (between : Option (List ℕ)) → ReportsText f between after result → OrFault (IsStatus (status.Refused (text_refusal f))) result
  fault-report f between r = grind (arith, wanted)

  fed-refused : (page : List ℕ) (f : TextFault) → IsReportedFault page f
      → (between : Option (List ℕ)) (end : Result (Unit {0}) FeedStop) → FeedStates (Some page) before between end
      → ReportsStop end between after result → OrFault (IsStatus (status.Refused (text_refusal f))) result
  fed-refused page f bad between (Ok end) (short, took) r = absurd (no-fault-of-text page took.publication f took.is (reported-first page f bad))
  fed-refused page f bad between (Err (stop.Fetch fetch.Failed)) t r = fetch-failed (IsStatus (status.Refused (text_refusal f))) between r
  fed-refused page f bad between (Err (stop.Fetch fetch.TooLong)) t r = absurd (long-none page f t.0 bad)
  fed-refused page f bad between (Err (stop.Text g)) t r =
      let same : g ≡ f = one-fault page g f (reported-first page g t.0) (reported-first page f bad) in
      let P : TextFault → Type 0 = λ x. OrFault (IsStatus (status.Refused (text_refusal x))) result in
      subst P same (fault-report g between r)
  fed-refused page f bad between (Err stop.Sink) t r = inr (inr (inl r.0))
  fed-refused page f bad between (Err stop.Memory) t r = inr (inr (inr r.0))
  fed-refused page f bad between _ t r = absurd t

  fed-whole : (page : List ℕ) (p : Publication) → IsText page p → length page ≤ most_given
      → (between : Option (List ℕ)) (end : Result (Unit {0}) FeedStop) → FeedStates (Some page) before between end
      → ReportsStop end between after result → OrFault (IsStatus status.Done) result
  fed-whole page p is short between end t r = grind (arith, fetch-failed, no-fault-of-text, reported-first)

  fed-gap : (page : Option (List ℕ)) (gap : Gap) → IsFeedGap page gap
      → (between : Option (List ℕ)) (end : Result (Unit {0}) FeedStop) → FeedStates page before between end
      → ReportsStop end between after result → OrFault (IsStatus (gap_status gap)) result
  fed-gap None OverLimit g between end t r = absurd g
  fed-gap (Some page) NotHeld g between end t r = absurd g
  fed-gap None NotHeld g between (Err (stop.Fetch fetch.Failed)) t r = fetch-failed (IsStatus status.Missing) between r
  fed-gap None NotHeld g between (Err (stop.Fetch fetch.Missing)) t r = wanted (IsStatus status.Missing) between (file_line (codes "missing") PUBLICATION) status.Missing refl r
  fed-gap None NotHeld g between (Err stop.Memory) t r = inr (inr (inr r.0))
  fed-gap (Some page) OverLimit g between (Ok end) t r = absurd (let short = t.0 in omega (arith, g.longer, short))
  fed-gap (Some page) OverLimit g between (Err (stop.Fetch fetch.Failed)) t r = fetch-failed (IsStatus status.TooLong) between r
  fed-gap (Some page) OverLimit g between (Err (stop.Fetch fetch.TooLong)) t r = wanted (IsStatus status.TooLong) between (file_line (codes "toolong") PUBLICATION) status.TooLong refl r
  fed-gap (Some page) OverLimit g between (Err (stop.Text f)) t r = absurd (long-none page f g t.0)
  fed-gap (Some page) OverLimit g between (Err stop.Sink) t r = inr (inr (inl r.0))
  fed-gap (Some page) OverLimit g between (Err stop.Memory) t r = inr (inr (inr r.0))
  fed-gap _ _ g between _ t r = absurd t

  module _ (asked : Option Asked) (pages : Pages) (is_shown : shown ≡ Some pages) (o : Outcome) (says : Says asked pages o) (reported : Reported shown late o before after result) where
    -- what is said of the publication that is printed as a feed
    fed-by : (Q : Status → Type 0) (folder : List ℕ) → asked ≡ Some (Feed folder)
        → ((between : Option (List ℕ)) (end : Result (Unit {0}) FeedStop) → FeedStates (page_of pages (publication_path folder)) before between end
        → ReportsStop end between after result → OrFault Q result)
        → OrFault Q result
    fed-by Q folder feed ends = grind arith

    pub refuses-feed-answer : (page : List ℕ) (f : TextFault) → RefusesFeed asked pages page f → OrFault (IsStatus (status.Refused (text_refusal f))) result
    refuses-feed-answer page f h = fed-by (IsStatus (status.Refused (text_refusal f))) h.fed.folder h.fed.feed (λ between end t r.
        let P : Option (List ℕ) → Type 0 = λ x. FeedStates x before between end in fed-refused page f h.reported between end (subst P h.fed.held t) r)

    pub fed-answer : IsFeedable asked pages → OrFault (IsStatus status.Done) result
    fed-answer h = fed-by (IsStatus status.Done) h.fed.folder h.fed.feed (λ between end t r.
        let P : Option (List ℕ) → Type 0 = λ x. FeedStates x before between end in fed-whole h.page h.publication h.read h.short between end (subst P h.fed.held t) r)

    pub refuses-answer : (refusal : Refusal) → RefusesFiles asked pages refusal → OrFault (IsStatus (status.Refused refusal)) result
    refuses-answer refusal h = refused-answer o refusal (refusal-comes asked pages o refusal says h) reported

    pub refuses-text-answer : (page : List ℕ) (f : TextFault) → RefusesText asked pages page f → OrFault (IsStatus (status.Refused (text_refusal f))) result
    refuses-text-answer page f h = refused-answer o (text_refusal f) (text-comes asked pages o page f says h) reported

    pub values-answer : (end : ValueEnd) → EndsValues asked pages end → OrFault (IsStatus (value_status end)) result
    values-answer end h = elim (values-come asked pages o h.folder h.more h.books says h.value h.gives) [
      | inl states ↦ values-report o h.books h.more (page_of pages (publication_path h.folder)) end states h.ends reported
      | inr e ↦ excused (IsStatus (value_status end)) o e reported
    ]

    values-gap : (gap : Gap) → EndsValues asked pages (values.Fetch (fetch_of gap)) → OrFault (IsStatus (gap_status gap)) result
    values-gap NotHeld h = values-answer (values.Fetch fetch.Missing) h
    values-gap OverLimit h = values-answer (values.Fetch fetch.TooLong) h

    pub gap-answer : (number : ℕ) (gap : Gap) → LacksPage asked pages number gap → OrFault (IsStatus (gap_status gap)) result
    gap-answer number gap h = elim (gap-comes asked pages o number gap says h) [
      | inl comes ↦ gap-of-answer o gap comes reported
      | inr (inl feed) ↦ fed-by (IsStatus (gap_status gap)) feed.0 feed.1 (λ between end t r. fed-gap (page_of pages (publication_path feed.0)) gap feed.2 between end t r)
      | inr (inr ends) ↦ values-gap gap ends
    ]

    clearable-comes : (h : HasBooksToClear asked pages) → Comes (IsDayOf Whole h.books h.nodes h.cleared.workers) o
    clearable-comes h = let c = h.cleared in day-comes asked pages o Whole c.folder h.nodes c.workers h.books says c.clear c.gives

    pub cleared-answer : HasBooksToClear asked pages → OrFault IsDayStatus result
    cleared-answer h = day-of-answer o Whole h.books h.nodes h.cleared.workers (clearable-comes h) reported

    pub complete-answer : HasBudget asked pages → OrFault (IsStatus status.Done) result
    complete-answer h = let c = h.clearable in whole-answer o Whole c.books c.nodes c.cleared.workers h.enough (clearable-comes c) reported

    splittable-comes : (h : IsSplittable asked pages) → Comes (IsDayOf Islands h.books h.nodes h.split.workers) o
    splittable-comes h = let s = h.split in day-comes asked pages o Islands s.folder h.nodes s.workers h.books says s.split s.gives

    pub split-answer : IsSplittable asked pages → OrFault IsDayStatus result
    split-answer h = day-of-answer o Islands h.books h.nodes h.split.workers (splittable-comes h) reported

    pub islands-answer : HasIslandBudget asked pages → OrFault (IsStatus status.Done) result
    islands-answer h = let s = h.splittable in whole-answer o Islands s.books s.nodes s.split.workers h.enough (splittable-comes s) reported

    pub checked-answer : IsReadable asked pages → OrFault IsVerdictStatus result
    checked-answer h = verdict-of-answer o (verdict-comes asked pages o says h) reported

    pub migrated-answer : IsMigratable asked pages → OrFault (IsStatus status.Done) result
    migrated-answer h = text-of-answer o (migrated-comes asked pages o says h) reported
