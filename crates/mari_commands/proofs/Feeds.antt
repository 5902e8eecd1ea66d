-- What each answer says where the words ask for the feed of a publication.
use Rattle.std.proofs.Common.{◌≡◌, ◌∙◌, inl, inr, ℕ, List, Option, Some, None, refl, subst, sym, arith}
use Rattle.std.specs.Prelude.{Result, Ok, Err}
use lib.Chars.{codes}
use Rattle.mari_io.specs.Outside.{Pages, page_of}
use Rattle.mari_io.specs.Taken.{then_took}
use Rattle.mari_io.specs.declared.shelf.Fetch.TheVariants as fetch
use Rattle.mari_publish.specs.declared.fault.TextFault.{TextFault}
use Rattle.mari_publish.specs.declared.fault.TextFault.TheVariants as text_fault
use Rattle.mari_day.specs.Files.{Gap}
use Rattle.mari_day.specs.Files.Gap.{NotHeld, OverLimit}
use Rattle.mari_day.specs.declared.files.TheConstants.{PUBLICATION}
use Rattle.mari_feed.specs.Streams.{FeedStates, IsFeedFetch, TookAll, TookFirst}
use Rattle.mari_feed.specs.declared.stream.FeedStop.{FeedStop}
use Rattle.mari_feed.specs.declared.stream.FeedStop.TheVariants as stop
use Rattle.mari_words.specs.Asked.{Asked}
use Rattle.mari_words.specs.Asked.Asked.{Feed}
use Rattle.mari_answers.specs.declared.status.Status.{Status}
use Rattle.mari_answers.specs.declared.status.Status.TheVariants as status
use Rattle.mari_commands.specs.Commands.{HasFeed, IsRefused, LacksPage}
use Rattle.mari_answers.specs.Texts.{text_refusal}
use Rattle.mari_commands.specs.Commands.IsRefused.{OfFeed as refused-feed}
use Rattle.mari_commands.specs.Commands.LacksPage.{NoFeed as lacks-feed, LongFeed as lacks-long}
use Rattle.mari_commands.specs.Outcome.{MayWant, ReportsParts}
use Rattle.mari_answers.specs.Reports.{Reports, ReportsRefusal, ReportsStop, WhereReported, publication_path}
use Rattle.mari_answers.specs.Reports.Reports.{Printed, CutOff, Starved}
use Rattle.mari_answers.specs.Lines.{file_line}
use Rattle.mari_commands.specs.Program.{Answers, IsCutOff, IsDone, IsStarved, TookFirstPart, TookOf, TookSummary, TookVerdict, gap_status, gap_word}
use Rattle.mari_commands.specs.Program.IsDone.{Fed as done-fed}
use Rattle.mari_commands.specs.Program.IsCutOff.{FeedPart as cut-feed, FeedRefused as cut-refused, FeedFault as cut-fault, FeedGap as cut-gap}
use Rattle.mari_commands.specs.Program.IsStarved.{Nothing as starved-before, FeedPart as starved-feed}
use Rattle.mari_commands.specs.Program.TookAhead.{Lines as lines-ahead}
use Rattle.mari_answers.specs.Refusals.{HasName}
use Rattle.mari_commands.proofs.Naming.{text-reportable}

module _ (asked : Option Asked) (pages : Option Pages) (failed : Type 0) (before after : Option (List ℕ)) (folder : List ℕ) (feed : asked ≡ Some (Feed folder)) (between : Option (List ℕ)) where
  abbrev Ends : Status → Type 0
  Ends = Answers asked pages failed before after

  -- the folder's publication, where the pages are reported
  abbrev page_in : Pages → Option (List ℕ)
  page_in reported = page_of reported (publication_path folder)

  fed : (reported : Pages) (page : List ℕ) → page_in reported ≡ Some page → HasFeed asked reported page
  fed reported page held = record { folder = folder; feed = feed; held = held }

  -- what is so of them is so of those that are reported
  only : (P : Pages → Type 0) (reported : Pages) → P reported → WhereReported (Some reported) P
  only P reported h other e = let same : reported ≡ other = cc in subst P same h

  abbrev States : Result (Unit {0}) FeedStop → Type 0
  States end = WhereReported pages (λ reported. FeedStates (page_in reported) before between end)

  -- what was taken before a line, by how the printing ended
  ahead-failed : (page : Option (List ℕ)) → FeedStates {T = Unit {0}} page before between (Err (stop.Fetch fetch.Failed)) → TookOf TookFirst page before between
  ahead-failed None t = t
  ahead-failed (Some page) t = t

  ahead-missing : (page : Option (List ℕ)) → FeedStates {T = Unit {0}} page before between (Err (stop.Fetch fetch.Missing)) → TookOf TookFirst page before between
  ahead-missing page t = grind arith

  ahead-long : (page : Option (List ℕ)) → FeedStates {T = Unit {0}} page before between (Err (stop.Fetch fetch.TooLong)) → TookOf TookFirst page before between
  ahead-long page t = grind arith

  ahead-fault : (f : TextFault) (page : Option (List ℕ)) → FeedStates {T = Unit {0}} page before between (Err (stop.Text f)) → TookOf TookAll page before between
  ahead-fault f page t = grind arith

  first-fault : (f : TextFault) (page : Option (List ℕ)) → FeedStates {T = Unit {0}} page before between (Err (stop.Text f)) → TookOf TookFirst page before between
  first-fault f page t = grind arith

  ahead-memory : (page : Option (List ℕ)) → FeedStates {T = Unit {0}} page before between (Err stop.Memory) → TookOf TookFirst page before between
  ahead-memory None t = t
  ahead-memory (Some page) t = t

  -- no other text is printed, and the publication's page is wanted
  first-part : TookFirstPart asked before after
  first-part = record { usage = λ e. absurd (cc (feed, e)); summary = λ number e. absurd (cc (feed, e)) }

  wanted : MayWant asked PUBLICATION
  wanted = inr (inr (inl (folder, feed)), refl)

  -- there was no memory for more
  starves : WhereReported pages (λ reported. TookOf TookFirst (page_in reported) before between) → after ≡ between → Ends status.Memory
  starves took p = (λ reported t. by reported (page_in reported) refl (took reported t), inr (inr (inl (folder, feed))))
    where
      by : (reported : Pages) (page : Option (List ℕ)) → page_in reported ≡ page → TookOf TookFirst page before between → IsStarved asked reported before after
      by reported None is t = starved-before (p ∙ t)
      by reported (Some page) is t = let P : Option (List ℕ) → Type 0 = λ x. TookFirst page before x in starved-feed page (fed reported page is) (subst P (sym p) t)

  never-memory : (WhereReported pages (λ reported. ⊥)) → Ends status.Memory
  never-memory none = (λ reported t. absurd (none reported t), inr (inr (inl (folder, feed))))

  no-summary : TookSummary asked before after
  no-summary number e = grind arith

  no-verdict : TookVerdict asked before after
  no-verdict other e = grind arith

  done : (end : Unit {0}) → States (Ok end) → after ≡ between → Ends status.Done
  done end states p = (λ reported t. by reported (page_in reported) refl (states reported t), no-summary, no-verdict)
    where
      by : (reported : Pages) (page : Option (List ℕ)) → page_in reported ≡ page → FeedStates page before between (Ok end) → IsDone asked reported before after
      by reported None is t = absurd t
      by reported (Some page) is (short, took) =
          let P : Option (List ℕ) → Type 0 = λ x. IsDone asked reported before x in
          subst P (sym p) (done-fed (record { page = page; publication = took.publication; fed = fed reported page is; short = short; read = took.is }) took)

  cut : States (Err stop.Sink) → after ≡ between → Ends status.WriteFault
  cut states p = (λ reported t. by reported (page_in reported) refl (states reported t), first-part)
    where
      by : (reported : Pages) (page : Option (List ℕ)) → page_in reported ≡ page → FeedStates {T = Unit {0}} page before between (Err stop.Sink) → IsCutOff asked reported failed before after
      by reported None is t = absurd t
      by reported (Some page) is t = let P : Option (List ℕ) → Type 0 = λ x. IsCutOff asked reported failed before x in subst P (sym p) (cut-feed page (fed reported page is) t)

  -- a call of the shelf failed
  of-failed : (result : Status) → failed → States (Err (stop.Fetch fetch.Failed)) → Reports (file_line (codes "readfault") PUBLICATION) status.ReadFault between after result → Ends result
  of-failed result why states (Printed e p) =
      subst Ends (sym e) (
        inr (inl (folder, feed)),
        (
          PUBLICATION,
          wanted,
          record {
            between = between;
            ahead = lines-ahead folder feed refl (λ reported t. ahead-failed (page_in reported) (states reported t));
            took = p;
          },
        ),
      )
  of-failed result why states (CutOff e p) =
      let cut : Ends status.WriteFault = (
        λ reported t. cut-fault why (folder, feed) (record {
          between = between;
          ahead = lines-ahead folder feed refl (only (λ x. TookOf TookFirst (page_in x) before between) reported (ahead-failed (page_in reported) (states reported t)));
          began = p;
        }),
        first-part,
      ) in
      subst Ends (sym e) cut
  of-failed result why states (Starved e p) = subst Ends (sym e) (starves (λ reported t. ahead-failed (page_in reported) (states reported t)) p)

  -- its page can't be had
  missing-gap : (reported : Pages) (page : Option (List ℕ)) → page_in reported ≡ page
      → FeedStates {T = Unit {0}} page before between (Err (stop.Fetch fetch.Missing))
      → LacksPage asked reported PUBLICATION NotHeld
  missing-gap reported None is t = lacks-feed folder feed is refl refl
  missing-gap reported (Some page) is t = absurd t

  long-gap : (reported : Pages) (page : Option (List ℕ)) → page_in reported ≡ page
      → FeedStates {T = Unit {0}} page before between (Err (stop.Fetch fetch.TooLong))
      → LacksPage asked reported PUBLICATION OverLimit
  long-gap reported None is t = absurd t
  long-gap reported (Some page) is t = lacks-long page (fed reported page is) t.0 refl refl

  gap-ends : (gap : Gap) (line : WhereReported pages (λ reported. LacksPage asked reported PUBLICATION gap))
      (took : WhereReported pages (λ reported. TookOf TookFirst (page_in reported) before between))
      → after ≡ then_took between (file_line (gap_word gap) PUBLICATION) → Ends (gap_status gap)
  gap-ends NotHeld line took p =
      (inr (inl (folder, feed)), record { file = PUBLICATION; wanted = wanted; first = line; line = record { between = between; ahead = lines-ahead folder feed refl took; took = p } })
  gap-ends OverLimit line took p =
      (inr (inl (folder, feed)), record { file = PUBLICATION; wanted = wanted; first = line; line = record { between = between; ahead = lines-ahead folder feed refl took; took = p } })

  of-gap : (gap : Gap) (result : Status) → WhereReported pages (λ reported. LacksPage asked reported PUBLICATION gap)
      → WhereReported pages (λ reported. TookOf TookFirst (page_in reported) before between)
      → Reports (file_line (gap_word gap) PUBLICATION) (gap_status gap) between after result → Ends result
  of-gap gap result line took (Printed e p) = subst Ends (sym e) (gap-ends gap line took p)
  of-gap gap result line took (CutOff e p) =
      let cut : Ends status.WriteFault = (
        λ reported t. cut-gap gap (line reported t) (record {
          between = between;
          ahead = lines-ahead folder feed refl (only (λ x. TookOf TookFirst (page_in x) before between) reported (took reported t));
          began = p;
        }),
        first-part,
      ) in
      subst Ends (sym e) cut
  of-gap gap result line took (Starved e p) = subst Ends (sym e) (starves took p)

  -- its text has a fault
  fault-refused : (f : TextFault) (reported : Pages) (page : Option (List ℕ)) → page_in reported ≡ page
      → FeedStates {T = Unit {0}} page before between (Err (stop.Text f)) → IsRefused asked reported (text_refusal f)
  fault-refused f reported None is t = absurd t
  fault-refused f reported (Some page) is t = refused-feed page f (record { fed = fed reported page is; reported = t.0 }) refl

  -- its refusal names the publication
  text-file : (f : TextFault) → (text_refusal f).file ≡ PUBLICATION
  text-file (text_fault.BadLine n) = refl
  text-file (text_fault.BadOrder n) = refl
  text-file (text_fault.Truncated n) = refl
  text-file text_fault.Memory = refl

  of-fault : (f : TextFault) (result : Status) → HasName (text_refusal f) → States (Err (stop.Text f)) → ReportsRefusal (text_refusal f) between after result → Ends result
  of-fault f result name states (Printed e p) =
      subst Ends (sym e) (
        inr (inl (folder, feed)),
        (λ reported t. fault-refused f reported (page_in reported) refl (states reported t)),
        record {
          between = between;
          ahead = lines-ahead folder feed (text-file f) (λ reported t. ahead-fault f (page_in reported) (states reported t));
          took = p;
        },
        name,
      )
  of-fault f result name states (CutOff e p) =
      let cut : Ends status.WriteFault = (
        λ reported t.
            cut-refused (text_refusal f) (fault-refused f reported (page_in reported) refl (states reported t))
            (record {
              between = between;
              ahead = lines-ahead folder feed refl (only (λ x. TookOf TookAll (page_in x) before between) reported (ahead-fault f (page_in reported) (states reported t)));
              began = p;
            }),
        first-part,
      ) in
      subst Ends (sym e) cut
  of-fault f result name states (Starved e p) = subst Ends (sym e) (starves (λ reported t. first-fault f (page_in reported) (states reported t)) p)

  no-wrapped : (page : Option (List ℕ)) → FeedStates {T = Unit {0}} page before between (Err (stop.Fetch fetch.Memory)) → ⊥
  no-wrapped None t = t
  no-wrapped (Some page) t = t

  of-end : (end : Result (Unit {0}) FeedStop) (result : Status) → (IsFeedFetch fetch.Failed end → failed) → States end → ReportsStop end between after result → Ends result
  of-end (Ok end) result cause states (e, p) = subst Ends (sym e) (done end states p)
  of-end (Err (stop.Fetch fetch.Failed)) result cause states r = of-failed result (cause refl) states r
  of-end (Err (stop.Fetch fetch.Missing)) result cause states r =
      of-gap NotHeld result (λ reported t. missing-gap reported (page_in reported) refl (states reported t))
      (λ reported t. ahead-missing (page_in reported) (states reported t)) r
  of-end (Err (stop.Fetch fetch.TooLong)) result cause states r =
      of-gap OverLimit result (λ reported t. long-gap reported (page_in reported) refl (states reported t))
      (λ reported t. ahead-long (page_in reported) (states reported t)) r
  of-end (Err (stop.Fetch fetch.Memory)) result cause states (e, p) = subst Ends (sym e) (never-memory (λ reported t. no-wrapped (page_in reported) (states reported t)))
  of-end (Err (stop.Text (text_fault.BadLine n))) result cause states r = of-fault (text_fault.BadLine n) result (text-reportable (text_fault.BadLine n)).1 states r
  of-end (Err (stop.Text (text_fault.BadOrder n))) result cause states r = of-fault (text_fault.BadOrder n) result (text-reportable (text_fault.BadOrder n)).1 states r
  of-end (Err (stop.Text (text_fault.Truncated n))) result cause states r = of-fault (text_fault.Truncated n) result (text-reportable (text_fault.Truncated n)).1 states r
  of-end (Err (stop.Text text_fault.Memory)) result cause states (e, p) = subst Ends (sym e) (starves (λ reported t. first-fault text_fault.Memory (page_in reported) (states reported t)) p)
  of-end (Err stop.Sink) result cause states (e, p) = subst Ends (sym e) (cut states p)
  of-end (Err stop.Memory) result cause states (e, p) = subst Ends (sym e) (starves (λ reported t. ahead-memory (page_in reported) (states reported t)) p)

pub feed-answers : (asked : Option Asked) (pages : Option Pages) (failed : Type 0) (before after : Option (List ℕ)) (late : Type 0)
    → (late → failed) → (folder : List ℕ) → asked ≡ Some (Feed folder) → (result : Status)
    → ReportsParts pages late folder before after result
    → Answers asked pages failed before after result
feed-answers asked pages failed before after late later folder feed result r = of-end asked pages failed before after folder feed r.between r.end result (λ h. later (r.cause h)) r.states r.reports
