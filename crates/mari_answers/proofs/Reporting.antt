-- Reports of one text under another name, of a text with a line after it, and of a page that can't be had.
use Rattle.std.proofs.Common.{◌≡◌, ◌∙◌, ◌+◌, ℕ, List, ◌++◌, length, take, Option, inl, inr, ap, arith, refl, subst, sym}
use Rattle.std.proofs.Math.Seq.{take-append-add, take-append_seam}
use Rattle.std.proofs.lemmas.Bool.{cases_lt}
use Rattle.std.proofs.lemmas.List.{take-append-le, take_all}
use Rattle.mari_io.specs.declared.shelf.Fetch.{Fetch}
use Rattle.mari_io.specs.declared.shelf.Fetch.TheVariants as fetch
use Rattle.mari_io.specs.Taken.{TookPart, then_took}
use Rattle.mari_io.proofs.Taken.{took_both}
use Rattle.mari_answers.specs.declared.status.Status.{Status}
use Rattle.mari_answers.specs.declared.status.Status.TheVariants as status
use Rattle.mari_answers.specs.Reports.{IsPageLine, Reports, ReportsNoPage}
use Rattle.mari_answers.specs.Reports.Reports.{Starved}

pub same_text : (text other : List ℕ) (wanted : Status) (before after : Option (List ℕ)) (result : Status)
    → text ≡ other → Reports text wanted before after result → Reports other wanted before after result
same_text text other wanted before after result e r = let P : List ℕ → Type 0 = λ t. Reports t wanted before after result in subst P e r

pub same_report : (text other : List ℕ) (wanted asked : Status) (before after : Option (List ℕ)) (result : Status)
    → text ≡ other → wanted ≡ asked → Reports text wanted before after result
    → Reports other asked before after result
same_report text other wanted asked before after result e f r = let P : Status → Type 0 = λ s. Reports other s before after result in subst P f (same_text text other wanted before after result e r)

-- the line of a file whose page can't be had, and the status that it has
pub page_reported : (file : ℕ) (why : Fetch) (line : List ℕ) (wanted : Status) (before after : Option (List ℕ)) (result : Status)
    → IsPageLine file why line wanted → Reports line wanted before after result
    → ReportsNoPage file why before after result
page_reported file fetch.Failed line wanted before after result is r = same_report line _ wanted _ before after result is.0 is.1 r
page_reported file fetch.Missing line wanted before after result is r = same_report line _ wanted _ before after result is.0 is.1 r
page_reported file fetch.TooLong line wanted before after result is r = same_report line _ wanted _ before after result is.0 is.1 r
page_reported file fetch.Memory line wanted before after result is r = absurd is

-- and out of memory nothing is printed of it
pub page_starved : (file : ℕ) (why : Fetch) (before : Option (List ℕ)) → ReportsNoPage file why before before status.Memory
page_starved file fetch.Failed before = Starved refl refl
page_starved file fetch.Missing before = Starved refl refl
page_starved file fetch.TooLong before = Starved refl refl
page_starved file fetch.Memory before = (refl, refl)

-- a first part of a text is one of the text with a line after it
pub cut_before : (before after : Option (List ℕ)) (text line : List ℕ) → TookPart before after text → TookPart before after (text ++ line)
cut_before before after text line cut = elim (cases_lt (length text) cut.0) [
  | inl over ↦ (length text, cut.1 ∙ ap (then_took before) (take_all cut.0 text (omega (arith, over)) ∙ sym (take-append_seam text line)))
  | inr within ↦ (cut.0, cut.1 ∙ ap (then_took before) (sym (take-append-le cut.0 text line (omega (arith, within)))))
]

-- and so is the text with a first part of the line
pub cut_after : (before between after : Option (List ℕ)) (text line : List ℕ) → between ≡ then_took before text → TookPart between after line → TookPart before after (text ++ line)
cut_after before between after text line whole cut =
    (length text + cut.0, took_both before between after text (take cut.0 line) whole cut.1 ∙ ap (then_took before) (sym (take-append-add text line cut.0)))
