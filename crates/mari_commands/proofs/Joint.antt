-- Quarters that are cleared as one market: what each answer says of them.
use Rattle.std.proofs.Common.{◌≡◌, ◌∙◌, ℕ, Bool, true, false, List, Option, Some, Result, Ok, Err, if◌then◌else◌, ap, refl, subst, sym, arith}
use Rattle.std.specs.Prelude.{string_bytes}
use lib.Chars.{codes}
use Rattle.mari_io.specs.Outside.{Pages}
use Rattle.mari_io.specs.Taken.{TookPart, then_took}
use Rattle.mari_io.specs.declared.shelf.Fetch.TheVariants as fetch
use Rattle.mari_day.specs.Files.Gap.{NotHeld, OverLimit}
use Rattle.mari_day.specs.Reading.{IsFetchFault}
use Rattle.mari_day.specs.declared.reading.BooksFault.{BooksFault}
use Rattle.mari_day.specs.declared.reading.BooksFault.TheVariants as why
use Rattle.mari_blocks.specs.declared.clearing.JointText.{JointText}
use Rattle.mari_quarters.specs.Quarters.{HasQuartersText, NamesQuartersFile, QuartersReport}
use Rattle.mari_words.specs.Asked.{Asked}
use Rattle.mari_words.specs.Asked.Asked.{Blocks}
use Rattle.mari_commands.specs.declared.outcome.JointJob.{JointJob}
use Rattle.mari_commands.specs.declared.outcome.Outcome.{Outcome}
use Rattle.mari_commands.specs.declared.outcome.Outcome.TheVariants.{Day, Blocks as Joins, Memory as NoMemory}
use Rattle.mari_answers.specs.declared.status.Status.{Status}
use Rattle.mari_answers.specs.declared.status.Status.TheVariants as status
use Rattle.mari_commands.specs.Commands.{AsksForBlocks}
use Rattle.mari_commands.specs.Joint.{AnswersOf, AreCutOff, BlocksAnswers}
use Rattle.mari_commands.specs.Joint.AreCutOff.{Text as CutText, Refuses, Lacks, Fails}
use Rattle.mari_commands.specs.Outcome.{IsNoPage, IsOfWords, IsReportable, IsSayable, Reported, ReportsBlocks, ReportsQuarters, Says, joint_command}
use Rattle.mari_answers.specs.Reports.{Reports, WhereReported}
use Rattle.mari_answers.specs.Reports.Reports.{Printed, CutOff, Starved}
use Rattle.mari_answers.specs.Lines.{file_line, refused_line}
use Rattle.mari_commands.proofs.Ending.{answers}
use Rattle.mari_commands.proofs.Folder.{no_other}

module _ (q : JointJob) (pages : Option Pages) (failed : Type 0) (before after : Option (List ℕ)) where
  abbrev Ends : Status → Type 0
  Ends = BlocksAnswers (string_bytes q.folder) q.first q.last q.nodes pages failed before after

  abbrev Cut : Pages → Type 0
  Cut reported = AreCutOff (string_bytes q.folder) q.first q.last q.nodes reported failed before after

  of-report : (text : List ℕ) (wanted result : Status) → Reports text wanted before after result
      → (after ≡ then_took before text → Ends wanted)
      → WhereReported pages (λ reported. TookPart before after text → Cut reported) → Ends result
  of-report text wanted result (Printed e p) done cut = subst Ends (sym e) (done p)
  of-report text wanted result (CutOff e p) done cut = let all : Ends status.WriteFault = λ reported t. cut reported t p in subst Ends (sym e) all
  of-report text wanted result (Starved e p) done cut = let all : Ends status.Memory = p in subst Ends (sym e) all

  of-nothing : (result : Status) → result ≡ status.Memory → after ≡ before → Ends result
  of-nothing result e p = let all : Ends status.Memory = p in subst Ends (sym e) all

  of-text : (published : Bool) (text : List ℕ) (result : Status) → WhereReported pages (λ reported. HasQuartersText reported (string_bytes q.folder) q.first q.last q.nodes published text)
      → Reports text (if published then status.Done else status.Unpublished) before after result → Ends result
  of-text true text result has r = of-report text status.Done result r (λ p reported t. record { text = text; has = has reported t; taken = p }) (λ reported t p. CutText true text (has reported t) p)
  of-text false text result has r =
      of-report text status.Unpublished result r (λ p reported t. record { text = text; has = has reported t; taken = p })
      (λ reported t p. CutText false text (has reported t) p)

  by-given : (given : Result JointText BooksFault) (result : Status)
      → WhereReported pages (λ reported. QuartersReport reported (string_bytes q.folder) q.first q.last q.nodes given)
      → NamesQuartersFile given → IsSayable given
      → (IsFetchFault fetch.Failed given → failed) → ReportsQuarters given before after result → Ends result
  by-given (Ok printed) result states file said cause r = of-text printed.published printed.text result states r
  by-given (Err (why.Fetch n fetch.Failed)) result states file said cause r =
      of-report (file_line (codes "readfault") n) status.ReadFault result r (λ p. (n, file, p)) (λ reported t p. Fails (cause refl) n file p)
  by-given (Err (why.Fetch n fetch.Missing)) result states file said cause r =
      of-report (file_line (codes "missing") n) status.Missing result r (λ p. record { file = n; named = file; lacks = states; taken = p }) (λ reported t p. Lacks n NotHeld (states reported t) p)
  by-given (Err (why.Fetch n fetch.TooLong)) result states file said cause r =
      of-report (file_line (codes "toolong") n) status.TooLong result r (λ p. record { file = n; named = file; lacks = states; taken = p }) (λ reported t p. Lacks n OverLimit (states reported t) p)
  by-given (Err (why.Fetch n fetch.Memory)) result states file said cause r = of-nothing result r.0 r.1
  by-given (Err (why.Refused refusal)) result states file said cause r =
      of-report (refused_line refusal) (status.Refused refusal) result r (λ p. (states, file, said.1, p))
      (λ reported t p. Refuses refusal (states reported t) p)
  by-given (Err why.Memory) result states file said cause r = of-nothing result r.0 r.1

-- the words ask for quarters, and this is what is reported of them
module _ (pages : Option Pages) (failed : Type 0) (before after : Option (List ℕ)) (result : Status) (late : Type 0) (later : late → failed) where
  of-quarters : (x : Asked) (q : JointJob) → Some x ≡ Some (joint_command q) → ReportsBlocks pages late q before after result → AnswersOf (Some x) pages failed before after result
  of-quarters x q e r =
      let ends : AnswersOf (Some (joint_command q)) pages failed before after result =
      by-given q pages failed before after r.given result r.states r.file r.sayable (λ h. later (r.cause h)) r.reports in
      subst (λ (o : Option Asked). AnswersOf o pages failed before after result) (sym e) ends

  blocks-answers : (folder : List ℕ) (first last nodes workers : ℕ) (o : Outcome) → IsOfWords (Some (Blocks folder first last nodes workers)) o → Reported pages late o before after result
      → AnswersOf (Some (Blocks folder first last nodes workers)) pages failed before after result
  blocks-answers folder first last nodes workers (Day job) words r =
      absurd
      (no_other (Some (Blocks folder first last nodes workers)) job.way words.0 job.nodes job.workers (Blocks folder first last nodes workers) words.1 refl refl)
  blocks-answers folder first last nodes workers (Joins q) words r = of-quarters (Blocks folder first last nodes workers) q words r
  blocks-answers folder first last nodes workers NoMemory words r =
      let all : AnswersOf (Some (Blocks folder first last nodes workers)) pages failed before after status.Memory = r.1 in
      subst (λ (s : Status). AnswersOf (Some (Blocks folder first last nodes workers)) pages failed before after s) (sym r.0) all
  blocks-answers folder first last nodes workers o words r = grind arith

-- what else the words may ask for
abbrev is_blocks : Option Asked → Bool
is_blocks (Some (Blocks folder first last nodes workers)) = true
is_blocks _ = false

no-blocks : (asked : Option Asked) → is_blocks asked ≡ false → AsksForBlocks asked → ⊥
no-blocks asked n (folder, first, last, nodes, workers, e) = let both : false ≡ true = sym n ∙ ap is_blocks e in cc

module _ (pages : Option Pages) (failed : Type 0) (before after : Option (List ℕ)) (shown : Option Pages) (same : shown ≡ pages) (late : Type 0) (later : late → failed)
    (o : Outcome) (result : Status) where
  pub answers-of : (asked : Option Asked) → WhereReported pages (λ reported. Says asked reported o)
      → IsOfWords asked o → IsReportable o → (IsNoPage fetch.Failed o → failed)
      → Reported shown late o before after result → AnswersOf asked pages failed before after result
  answers-of (Some (Blocks folder first last nodes workers)) says words ready cause r =
      blocks-answers pages failed before after result late later folder first last nodes workers o words (subst (λ (ps : Option Pages). Reported ps late o before after result) same r)
  answers-of asked says words ready cause r = answers asked pages failed before after (no-blocks asked refl) shown same late later o result says words ready cause r
