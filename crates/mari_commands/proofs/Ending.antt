-- What each answer says, by the outcome that is reported.
use Rattle.std.proofs.Common.{◌≡◌, ◌∙◌, inl, inr, ℕ, List, Option, Some, ap, refl, subst, sym}
use Rattle.std.specs.Prelude.{◌==◌, Bool, true, false, if◌then◌else◌, string_bytes}
use lib.Chars.{codes}
use Rattle.mari_io.specs.declared.shelf.Fetch.TheVariants as fetch
use Rattle.mari_io.specs.Outside.{Pages}
use Rattle.mari_io.specs.Taken.{TookPart, then_took}
use Rattle.mari_day.specs.Day.{EndsDay, WroteWholeDay}
use Rattle.mari_day.specs.Reading.{HasBooks}
use Rattle.mari_day.specs.declared.day.DayEnd.{DayEnd}
use Rattle.mari_day.specs.declared.day.DayEnd.TheVariants as end
use Rattle.mari_day.specs.Files.Gap.{NotHeld, OverLimit}
use Rattle.mari_progress.specs.Keeps.{net_sum}
use Rattle.mari_day.proofs.Keeping.{balanced, keeps-offers, totals-balance}
use Rattle.mari_day.specs.declared.files.TheConstants.{PUBLICATION}
use Rattle.mari_feed.specs.Streams.{TookAll, TookFirst}
use Rattle.mari_words.specs.Asked.{Asked}
use Rattle.mari_words.specs.Asked.Asked.{Clear, Split}
use Rattle.mari_commands.specs.declared.outcome.Job.{Job}
use Rattle.mari_commands.specs.declared.outcome.Way.{Way}
use Rattle.mari_commands.specs.declared.outcome.Way.TheVariants.{Whole, Islands}
use Rattle.mari_commands.specs.declared.outcome.Outcome.{Outcome}
use Rattle.mari_commands.specs.declared.outcome.Outcome.TheVariants.{NoCommand, Day, Feed as Feeds, Blocks as Joins, Values, Text, Invalid, NoPage, Refused, Memory as NoMemory}
use Rattle.mari_answers.specs.declared.status.Status.{Status}
use Rattle.mari_answers.specs.declared.status.Status.TheVariants as status
use Rattle.mari_commands.specs.Commands.{AreCleared, AsksForBlocks, AsksForFeed, AsksToClear}
use Rattle.mari_commands.specs.Headline.{WroteDay}
use Rattle.mari_commands.specs.Outcome.{IsNoPage, IsOfWords, IsReady, IsReportable, Reported, ReportsDay, Says, day_status}
use Rattle.mari_answers.specs.Reports.{Reports, WhereReported}
use Rattle.mari_answers.specs.Reports.Reports.{Printed, CutOff, Starved}
use Rattle.mari_commands.specs.Printing.{usage_line}
use Rattle.mari_answers.specs.Lines.{file_line, invalid_line, refused_line}
use Rattle.mari_commands.specs.Program.{Answers, IsFailedEnd, IsGapEnd, IsInvalidEnd, IsLine, IsRefusedEnd, TookFirstPart}
use Rattle.mari_commands.specs.Program.IsDone.{Cleared as done-cleared, Printed as done-printed, Split as done-split}
use Rattle.mari_commands.specs.Program.IsLine.{OfUsage as line-usage, OfRefusal as line-refusal, OfFault as line-fault, OfMissing as line-missing, OfTooLong as line-too-long, OfInvalid as line-invalid, OfText as line-text}
use Rattle.mari_commands.specs.Program.IsCutOff.{Day as cut-day, Line as cut-line, SplitDay as cut-split}
use Rattle.mari_commands.specs.Program.IsStarved.{Nothing as starved-before, Part as starved-part, SplitPart as starved-split}
use Rattle.mari_commands.specs.Splits.{AreSplit, AsksToSplit, EndsBy, WroteSplit, command_by}
use Rattle.mari_commands.proofs.Feeds.{feed-answers}
use Rattle.mari_commands.proofs.Valued.{values-answers}
use Rattle.mari_commands.proofs.Folder.{files_by}
use Rattle.mari_split.specs.Days.{EndsSplit, WroteSplitDay}
use Rattle.mari_split.proofs.Keeping.{keeps_offers, balanced as split-sums}
use Rattle.mari_commands.proofs.valid.Days.{day-is-valid}
use Rattle.mari_commands.proofs.Outcomes.{check-alone, check-no-feed, check-reads, day-is, files-no-feed, invalid-is, lacks-is, no-summary, no-verdict, none-no-feed, part-of-folder, part-of-text, part-of-usage, plain-line, refused-is, summary-is, text-no-feed, text-prints, values-is, verdict-is}

module _ (asked : Option Asked) where
  module _ (pages : Option Pages) (failed : Type 0) (before after : Option (List ℕ)) where
    abbrev Ends : Status → Type 0
    Ends = Answers asked pages failed before after

    starved : after ≡ before → Ends status.Memory
    starved p = (λ reported t. starved-before p, inl p)

    -- a line that is reported
    of-line : (AsksForFeed asked → ⊥) → (text : List ℕ) (wanted result : Status)
        → Reports text wanted before after result → (after ≡ then_took before text → Ends wanted)
        → (TookPart before after text → TookFirstPart asked before after)
        → WhereReported pages (λ reported. IsLine asked reported failed text) → Ends result
    of-line none text wanted result (Printed e p) done part is = subst Ends (sym e) (done p)
    of-line none text wanted result (CutOff e p) done part is = let cut : Ends status.WriteFault = (λ reported t. cut-line none text (is reported t) p, part p) in subst Ends (sym e) cut
    of-line none text wanted result (Starved e p) done part is = subst Ends (sym e) (starved p)

    of-nothing : (result : Status) → result ≡ status.Memory → after ≡ before → Ends result
    of-nothing result e p = subst Ends (sym e) (starved p)

    -- a day that is written whole
    wrote : (reported : Pages) (job : Job) (published unpublished : ℕ) (whole : Bool) → IsReady job
        → AreCleared asked reported job.books job.nodes
        → WroteWholeDay job.books job.nodes published unpublished before after
        → (unpublished == 0) ≡ whole → WroteDay asked reported whole before after
    wrote reported job published unpublished whole ready is w e = record {
      text = w.text;
      day = record {
        books = job.books;
        nodes = job.nodes;
        cleared = is;
        publication = w.printed.publication;
        is_day = w.printed.is_day;
        in_range = w.printed.in_range;
        offers = keeps-offers job.books ready.accepted job.nodes w.printed.publication.blocks w.printed.is_day.part;
        sums = balanced job.books ready.accepted job.nodes w.printed.publication.blocks w.printed.is_day.part;
        totals = ap net_sum w.printed.is_day.totals.operators ∙ totals-balance job.books ready.accepted job.nodes w.printed.publication.blocks w.printed.is_day.part;
        valid = day-is-valid job.books job.nodes w.printed.publication w.printed.is_day;
        printed = w.printed.text;
        published = ap (λ (n : ℕ). n == 0) (sym w.printed.unpublished) ∙ e;
      };
      taken = w.taken;
    }

    module _ (job : Job) (folder : List ℕ) (clear : asked ≡ Some (Clear folder job.nodes job.workers)) (ready : IsReady job)
        (is : WhereReported pages (λ reported. AreCleared asked reported job.books job.nodes)) where
      clears-it : AsksToClear asked
      clears-it = (folder, job.nodes, job.workers, clear)

      of-done : (published unpublished : ℕ) (whole : Bool)
          → WroteWholeDay job.books job.nodes published unpublished before after → (unpublished == 0) ≡ whole
          → Ends (if whole then status.Done else status.Unpublished)
      of-done published unpublished true w e = (
        λ reported t. done-cleared (wrote reported job published unpublished true ready (is reported t) w e),
        no-summary asked before after Whole folder job.nodes job.workers clear,
        no-verdict asked before after Whole folder job.nodes job.workers clear,
      )
      of-done published unpublished false w e = inl (clears-it, λ reported t. wrote reported job published unpublished false ready (is reported t) w e)

      of-end : (ended : DayEnd) → EndsDay job.books job.nodes before after ended → Ends (day_status ended)
      of-end (end.Done published unpublished) w = of-done published unpublished (unpublished == 0) w refl
      of-end end.WriteFault w = (λ reported t. cut-day job.books job.nodes (is reported t) w, part-of-folder asked before after (files_by asked Whole folder job.nodes job.workers clear))
      of-end end.Memory (inl same) = starved same
      of-end end.Memory (inr part) = (λ reported t. starved-part job.books job.nodes (is reported t) part, inr (inl clears-it))

    -- the same of a day whose runs are cleared island by island
    wrote-split : (reported : Pages) (job : Job) (published unpublished : ℕ) (whole : Bool) → IsReady job
        → AreSplit asked reported job.books job.nodes
        → WroteSplitDay job.books job.nodes published unpublished before after → (unpublished == 0) ≡ whole
        → WroteSplit asked reported whole before after
    wrote-split reported job published unpublished whole ready is w e = record {
      text = w.text;
      day = record {
        books = job.books;
        nodes = job.nodes;
        split = is;
        published = published;
        unpublished = unpublished;
        is_text = w.is_text;
        offers = keeps_offers job.books ready.accepted job.nodes w.is_text.blocks w.is_text.day.part;
        sums = split-sums job.books ready.accepted job.nodes w.is_text.blocks w.is_text.day.part;
        all = e;
      };
      taken = w.taken;
    }

    module _ (job : Job) (folder : List ℕ) (split : asked ≡ Some (Split folder job.nodes job.workers)) (ready : IsReady job)
        (is : WhereReported pages (λ reported. AreSplit asked reported job.books job.nodes)) where
      splits-it : AsksToSplit asked
      splits-it = (folder, job.nodes, job.workers, split)

      of-split-done : (published unpublished : ℕ) (whole : Bool)
          → WroteSplitDay job.books job.nodes published unpublished before after → (unpublished == 0) ≡ whole
          → Ends (if whole then status.Done else status.Unpublished)
      of-split-done published unpublished true w e = (
        λ reported t. done-split (wrote-split reported job published unpublished true ready (is reported t) w e),
        no-summary asked before after Islands folder job.nodes job.workers split,
        no-verdict asked before after Islands folder job.nodes job.workers split,
      )
      of-split-done published unpublished false w e = inr (splits-it, λ reported t. wrote-split reported job published unpublished false ready (is reported t) w e)

      of-split-end : (ended : DayEnd) → EndsSplit job.books job.nodes before after ended → Ends (day_status ended)
      of-split-end (end.Done published unpublished) w = of-split-done published unpublished (unpublished == 0) w refl
      of-split-end end.WriteFault w = (λ reported t. cut-split job.books job.nodes (is reported t) w, part-of-folder asked before after (files_by asked Islands folder job.nodes job.workers split))
      of-split-end end.Memory (inl same) = starved same
      of-split-end end.Memory (inr part) = (λ reported t. starved-split job.books job.nodes (is reported t) part, inr (inr (inr splits-it)))

    of-way : (job : Job) (folder : List ℕ) (way : Way)
        → asked ≡ Some (command_by way folder job.nodes job.workers) → IsReady job
        → WhereReported pages (λ reported. HasBooks reported folder job.books) → (ended : DayEnd)
        → EndsBy way job.books job.nodes before after ended → Ends (day_status ended)
    of-way job folder Whole words ready has ended ends =
        of-end job folder words ready (λ reported t. record { folder = folder; workers = job.workers; clear = words; gives = has reported t }) ended ends
    of-way job folder Islands words ready has ended ends =
        of-split-end job folder words ready (λ reported t. record { folder = folder; workers = job.workers; split = words; gives = has reported t }) ended ends

    of-day : (job : Job) (result : Status) → WhereReported pages (λ reported. Says asked reported (Day job))
        → IsOfWords asked (Day job) → IsReady job → ReportsDay job before after result → Ends result
    of-day job result says (folder, words) ready r =
        subst Ends (sym r.status) (of-way job folder job.way words ready (λ reported t. day-is asked reported job folder words (says reported t)) r.ended r.ends)

    by-outcome : (AsksForBlocks asked → ⊥) → (late : Type 0) → (late → failed) → (o : Outcome) (result : Status)
        → WhereReported pages (λ reported. Says asked reported o) → IsOfWords asked o → IsReportable o
        → (IsNoPage fetch.Failed o → failed) → Reported pages late o before after result → Ends result
    by-outcome other late later NoCommand result says words ready cause r =
        of-line (none-no-feed asked words) usage_line status.Usage result r (λ p. (words, p)) (part-of-usage asked before after words)
        (λ reported t. line-usage words refl)
    by-outcome other late later (Day job) result says words ready cause r = of-day job result says words ready r
    by-outcome other late later (Feeds folder) result says words ready cause r = feed-answers asked pages failed before after late later (string_bytes folder) words result r
    by-outcome other late later (Joins q) result says words ready cause r = absurd (other (string_bytes q.folder, q.first, q.last, q.nodes, q.workers, words))
    by-outcome other late later (Values v) result says words ready cause r =
        values-answers asked pages failed before after words.0 v.text v.end words.1 (λ reported t. values-is asked reported v words.0 (says reported t)) cause
        result r
    by-outcome other late later (Text text) result says words ready cause r =
        of-line (text-no-feed asked text.items words) text.items status.Done result r
        (λ p. (
          λ reported t. done-printed text.items (text-prints asked reported text words (says reported t)) p,
          summary-is asked before after text.items words p,
          verdict-is asked before after text.items words p,
        ))
        (part-of-text asked before after text.items words)
        (λ reported t. line-text (text-prints asked reported text words (says reported t)))
    by-outcome other late later (Invalid run number) result says words ready cause r =
        let alone = check-alone asked PUBLICATION words in
        of-line (check-no-feed asked words) (invalid_line run number) (status.Invalid run number) result r
        (λ p. (
          inl words,
          (λ reported t. invalid-is asked reported run number words (says reported t)),
          plain-line asked pages PUBLICATION TookAll (IsInvalidEnd run number) (invalid_line run number) before after alone p,
        ))
        (λ p. part-of-folder asked before after (check-reads asked words)) (λ reported t. line-invalid run number (invalid-is asked reported run number words (says reported t)) alone refl)
    by-outcome other late later (NoPage k fetch.Failed) result says words ready cause r =
        let none = files-no-feed asked words.0 in
        let text = file_line (codes "readfault") k in
        of-line none text status.ReadFault result r
        (λ p. (inl words.0, (k, words.1, plain-line asked pages k TookFirst IsFailedEnd text before after words.2 p)))
        (λ p. part-of-folder asked before after words.0)
        (λ reported t. line-fault (cause refl) words.0.0 k words.0.1 words.1 words.2 refl)
    by-outcome other late later (NoPage k fetch.Missing) result says words ready cause r =
        let none = files-no-feed asked words.0 in
        let text = file_line (codes "missing") k in
        of-line none text status.Missing result r
        (λ p. (
          inl words.0,
          record {
            file = k;
            wanted = words.1;
            first = λ reported t. lacks-is asked reported k NotHeld words.0 (says reported t);
            line = plain-line asked pages k TookFirst (IsGapEnd NotHeld) text before after words.2 p;
          },
        ))
        (λ p. part-of-folder asked before after words.0) (λ reported t. line-missing k (lacks-is asked reported k NotHeld words.0 (says reported t)) words.2 refl)
    by-outcome other late later (NoPage k fetch.TooLong) result says words ready cause r =
        let none = files-no-feed asked words.0 in
        let text = file_line (codes "toolong") k in
        of-line none text status.TooLong result r
        (λ p. (
          inl words.0,
          record {
            file = k;
            wanted = words.1;
            first = λ reported t. lacks-is asked reported k OverLimit words.0 (says reported t);
            line = plain-line asked pages k TookFirst (IsGapEnd OverLimit) text before after words.2 p;
          },
        ))
        (λ p. part-of-folder asked before after words.0) (λ reported t. line-too-long k (lacks-is asked reported k OverLimit words.0 (says reported t)) words.2 refl)
    by-outcome other late later (NoPage k fetch.Memory) result says words ready cause r = of-nothing result r.0 r.1
    by-outcome other late later (Refused refusal) result says words ready cause r =
        let none = files-no-feed asked words.0 in
        let text = refused_line refusal in
        of-line none text (status.Refused refusal) result r
        (λ p. (
          inl words.0,
          (λ reported t. refused-is asked reported refusal words.0 (says reported t)),
          plain-line asked pages refusal.file TookAll (IsRefusedEnd refusal) text before after words.1 p,
          ready.1,
        ))
        (λ p. part-of-folder asked before after words.0)
        (λ reported t. line-refusal refusal (refused-is asked reported refusal words.0 (says reported t)) words.1 refl)
    by-outcome other late later NoMemory result says words ready cause r = of-nothing result r.0 r.1

    -- the pages are those that whoever reports the outcome has
    pub answers : (AsksForBlocks asked → ⊥) → (shown : Option Pages) → shown ≡ pages → (late : Type 0)
        → (late → failed) → (o : Outcome) (result : Status) → WhereReported pages (λ reported. Says asked reported o)
        → IsOfWords asked o → IsReportable o → (IsNoPage fetch.Failed o → failed)
        → Reported shown late o before after result → Ends result
    answers other shown same late later o result says words ready cause r =
        let P : Option Pages → Type 0 = λ ps. Reported ps late o before after result in
        by-outcome other late later o result says words ready cause (subst P same r)
