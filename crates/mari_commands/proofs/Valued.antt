-- What each answer says where the words ask for the values of limits.
use Rattle.std.proofs.Common.{◌≡◌, ◌∙◌, inl, inr, ℕ, List, ◌++◌, Option, ap, append-nil, refl, subst, sym, arith}
use Rattle.mari_io.specs.Outside.{Pages}
use Rattle.mari_io.specs.Taken.{then_took}
use Rattle.mari_io.specs.declared.shelf.Fetch.TheVariants as fetch
use Rattle.mari_io.proofs.Taken.{took_more}
use Rattle.mari_publish.specs.declared.fault.TextFault.{TextFault}
use Rattle.mari_publish.specs.declared.fault.TextFault.TheVariants as text_fault
use Rattle.mari_day.specs.Files.Gap.{NotHeld, OverLimit}
use Rattle.mari_day.specs.declared.files.TheConstants.{PUBLICATION}
use Rattle.mari_capacity.specs.declared.ending.ValueEnd.{ValueEnd}
use Rattle.mari_capacity.specs.declared.ending.ValueEnd.TheVariants as values
use Rattle.mari_capacity.specs.Streams.{IsPageEnd, IsWrapped}
use Rattle.mari_capacity.proofs.Exact.{is-end-of}
use Rattle.mari_feed.specs.Streams.{TookAll}
use Rattle.mari_words.specs.Asked.{Asked}
use Rattle.mari_answers.specs.declared.status.Status.{Status}
use Rattle.mari_answers.specs.declared.status.Status.TheVariants as status
use Rattle.mari_answers.specs.Reports.{WhereReported}
use Rattle.mari_commands.specs.Commands.{AsksForFiles, AsksForValues, EndsValues, StatesValues}
use Rattle.mari_answers.specs.Texts.{text_refusal}
use Rattle.mari_commands.specs.Commands.IsInvalid.{OfValues as invalid-values}
use Rattle.mari_commands.specs.Commands.IsRefused.{OfValues as refused-values}
use Rattle.mari_commands.specs.Commands.LacksPage.{OfValues as lacks-values}
use Rattle.mari_commands.specs.Commands.Prints.{Valued as prints-values}
use Rattle.mari_commands.specs.Outcome.{MayWant, ReportsValues}
use Rattle.mari_answers.specs.Reports.Reports.{Printed, CutOff, Starved}
use Rattle.mari_answers.specs.Lines.{refused_line}
use Rattle.mari_commands.specs.Program.{Answers, IsFailedEnd, IsGapEnd, IsInvalidEnd, IsRefusedEnd, TookFirstPart, TookLine, TookSummary, TookVerdict}
use Rattle.mari_commands.specs.Program.IsCutOff.{ValuesPart as cut-values}
use Rattle.mari_commands.specs.Program.IsDone.{Printed as done-printed}
use Rattle.mari_commands.specs.Program.IsStarved.{Nothing as starved-before}
use Rattle.mari_commands.specs.Program.TookAhead.{Values as values-ahead}
use Rattle.mari_answers.specs.Refusals.{HasName}
use Rattle.mari_commands.specs.Values.{value_line, value_status}
use Rattle.mari_commands.proofs.Folder.{reads}
use Rattle.mari_commands.proofs.Naming.{text-reportable}

module _ (asked : Option Asked) (pages : Option Pages) (failed : Type 0) (before after : Option (List ℕ)) (words : AsksForValues asked) (lines : List ℕ) where
  abbrev Ends : Status → Type 0
  Ends = Answers asked pages failed before after

  abbrev States : ValueEnd → Type 0
  States end = WhereReported pages (λ reported. StatesValues asked reported end lines)

  files : AsksForFiles asked
  files = (words.0, reads asked _ words.0 words.2 refl)

  wanted : MayWant asked PUBLICATION
  wanted = inr (inr (inr words), refl)

  -- no other text is printed
  first-part : TookFirstPart asked before after
  first-part = record { usage = λ e. absurd (let f = words.2 in cc (e, f)); summary = λ number e. absurd (let f = words.2 in cc (e, f)) }

  no-summary : TookSummary asked before after
  no-summary number e = grind arith

  no-verdict : TookVerdict asked before after
  no-verdict other e = grind arith

  -- the lines, and after them the line of the status
  took : (Took : List ℕ → Option (List ℕ) → Option (List ℕ) → Type 0) (E : ValueEnd → Type 0) (end : ValueEnd) → E end
      → States end → after ≡ then_took before (lines ++ value_line end)
      → TookLine asked pages PUBLICATION Took E (value_line end) before after
  took Took E end is states p = record {
    between = then_took before lines;
    ahead = values-ahead words refl lines (λ reported t. (end, is, states reported t)) refl;
    took = p ∙ sym (took_more before lines (value_line end));
  }

  -- so the valuing ends, unless a call of the shelf failed
  ends : (end : ValueEnd) → (end ≡ values.Fetch fetch.Failed → ⊥) → (reported : Pages) → StatesValues asked reported end lines → EndsValues asked reported end
  ends end not reported t = grind (arith, is-end-of)

  of-publication : (f : TextFault) → PUBLICATION ≡ (text_refusal f).file
  of-publication (text_fault.BadLine n) = refl
  of-publication (text_fault.BadOrder n) = refl
  of-publication (text_fault.Truncated n) = refl
  of-publication text_fault.Memory = refl

  refused : (f : TextFault) → HasName (text_refusal f) → States (values.Text f) → after ≡ then_took before (lines ++ refused_line (text_refusal f)) → Ends (status.Refused (text_refusal f))
  refused f name states p = (
    inl files,
    (λ reported t. refused-values f (ends (values.Text f) (λ e. absurd (cc e)) reported (states reported t)) refl),
    subst (λ (file : ℕ). TookLine asked pages file TookAll (IsRefusedEnd (text_refusal f)) (refused_line (text_refusal f)) before after) (of-publication f)
        (took TookAll (IsRefusedEnd (text_refusal f)) (values.Text f) (f, refl, refl) states p),
    name,
  )

  -- all was printed
  printed : (end : ValueEnd) → (IsWrapped end → ⊥) → States end → after ≡ then_took before (lines ++ value_line end) → Ends (value_status end)
  printed (values.Valid published unpublished) never states p = (
    (λ reported t. done-printed lines (prints-values published unpublished (states reported t)) (p ∙ ap (λ (text : List ℕ). then_took before text) (append-nil lines))),
    no-summary,
    no-verdict,
  )
  printed (values.Invalid run fault) never states p = (
    inr words,
    (λ reported t. invalid-values (ends (values.Invalid run fault) (λ e. absurd (cc e)) reported (states reported t))),
    took _ (IsInvalidEnd run fault) (values.Invalid run fault) refl states p,
  )
  printed (values.Text (text_fault.BadLine n)) never states p = refused (text_fault.BadLine n) (text-reportable (text_fault.BadLine n)).1 states p
  printed (values.Text (text_fault.BadOrder n)) never states p = refused (text_fault.BadOrder n) (text-reportable (text_fault.BadOrder n)).1 states p
  printed (values.Text (text_fault.Truncated n)) never states p = refused (text_fault.Truncated n) (text-reportable (text_fault.Truncated n)).1 states p
  printed (values.Fetch fetch.Failed) never states p = (inl files, (PUBLICATION, wanted, took _ IsFailedEnd (values.Fetch fetch.Failed) refl states p))
  printed (values.Fetch fetch.Missing) never states p = (
    inl files,
    record {
      file = PUBLICATION;
      wanted = wanted;
      first = λ reported t. lacks-values (ends (values.Fetch fetch.Missing) (λ e. absurd (cc e)) reported (states reported t)) refl;
      line = took _ (IsGapEnd NotHeld) (values.Fetch fetch.Missing) refl states p;
    },
  )
  printed (values.Fetch fetch.TooLong) never states p = (
    inl files,
    record {
      file = PUBLICATION;
      wanted = wanted;
      first = λ reported t. lacks-values (ends (values.Fetch fetch.TooLong) (λ e. absurd (cc e)) reported (states reported t)) refl;
      line = took _ (IsGapEnd OverLimit) (values.Fetch fetch.TooLong) refl states p;
    },
  )
  printed end never states p = grind arith

  of-report : (end : ValueEnd) → (IsWrapped end → ⊥) → States end → (IsPageEnd fetch.Failed end → failed) → (result : Status) → ReportsValues lines end before after result → Ends result
  of-report end never states cause result (Printed e p) = subst Ends (sym e) (printed end never states p)
  of-report end never states cause result (CutOff e p) =
      let cut : Ends status.WriteFault = ((λ reported t. cut-values (record { end = end; lines = lines; states = states reported t; cause = cause; began = p })), first-part) in
      subst Ends (sym e) cut
  of-report end never states cause result (Starved e p) =
      let starved : Ends status.Memory = ((λ reported t. starved-before p), inl p) in
      subst Ends (sym e) starved

pub values-answers : (asked : Option Asked) (pages : Option Pages) (failed : Type 0) (before after : Option (List ℕ))
    → AsksForValues asked → (lines : List ℕ) (end : ValueEnd) → (IsWrapped end → ⊥)
    → WhereReported pages (λ reported. StatesValues asked reported end lines)
    → (IsPageEnd fetch.Failed end → failed) → (result : Status) → ReportsValues lines end before after result → Answers asked pages failed before after result
values-answers asked pages failed before after words lines end never states cause result r = of-report asked pages failed before after words lines end never states cause result r
