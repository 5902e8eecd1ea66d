-- Why a page wasn't had, by the status of what is reported.
use Rattle.std.proofs.Common.{◌≡◌, ◌∙◌, ℕ, List, Option, Some, None, ap, refl, sym}
use Rattle.std.specs.Prelude.{Err}
use Rattle.mari_io.specs.declared.shelf.Fetch.{Fetch}
use Rattle.mari_io.specs.declared.shelf.Fetch.TheVariants as fetch
use Rattle.mari_day.specs.Reading.{IsFetchFault}
use Rattle.mari_day.specs.declared.reading.BooksFault.{BooksFault}
use Rattle.mari_day.specs.declared.reading.BooksFault.TheVariants as why
use Rattle.mari_answers.specs.Lines.{file_line, page_word, refused_line}
use Rattle.mari_answers.specs.Reports.{Reports, ReportsNoBooks, ReportsNoPage}
use Rattle.mari_answers.specs.Reports.Reports.{Printed, CutOff, Starved}
use Rattle.mari_answers.specs.declared.status.Status.{Status}
use Rattle.mari_answers.specs.declared.status.Status.TheVariants as status

-- the fault of a fetch that a status reports
abbrev pub fault_of : Status → Option Fetch
fault_of status.ReadFault = Some fetch.Failed
fault_of status.Missing = Some fetch.Missing
fault_of status.TooLong = Some fetch.TooLong
fault_of _ = None

module _ (cause : Fetch) (result : Status) (is : fault_of result ≡ Some cause) where
  -- a status that reports none is another
  pub no-fault : (own : Status) → fault_of own ≡ None → result ≡ own → ⊥
  no-fault own none e = let both : None ≡ Some cause = sym none ∙ ap fault_of (sym e) ∙ is in cc

  module _ (before after : Option (List ℕ)) where
    -- the status of a text was to report it
    pub text-fault : (text : List ℕ) (own : Status) → Reports text own before after result → fault_of own ≡ Some cause
    text-fault text own (Printed e took) = ap fault_of (sym e) ∙ is
    text-fault text own (CutOff e took) = absurd (no-fault status.WriteFault refl e)
    text-fault text own (Starved e took) = absurd (no-fault status.Memory refl e)

    pub text-other : (text : List ℕ) (own : Status) → fault_of own ≡ None → Reports text own before after result → ⊥
    text-other text own none r = let both : None ≡ Some cause = sym none ∙ text-fault text own r in cc

    -- it is that of the page which is reported
    pub page-fault : (file : ℕ) (fault : Fetch) → ReportsNoPage file fault before after result → fault ≡ cause
    page-fault file fetch.Failed r = let e : Some fetch.Failed ≡ Some cause = text-fault (file_line (page_word fetch.Failed) file) status.ReadFault r in cc
    page-fault file fetch.Missing r = let e : Some fetch.Missing ≡ Some cause = text-fault (file_line (page_word fetch.Missing) file) status.Missing r in cc
    page-fault file fetch.TooLong r = let e : Some fetch.TooLong ≡ Some cause = text-fault (file_line (page_word fetch.TooLong) file) status.TooLong r in cc
    page-fault file fetch.Memory r = absurd (no-fault status.Memory refl r.0)

    -- and that of a folder that has no books
    pub books-fault : (T : Type 0) (fault : BooksFault) → ReportsNoBooks fault before after result → IsFetchFault {T = T} cause (Err fault)
    books-fault T (why.Fetch file fault) r = page-fault file fault r
    books-fault T (why.Refused refusal) r = absurd (text-other (refused_line refusal) (status.Refused refusal) refl r)
    books-fault T why.Memory r = absurd (no-fault status.Memory refl r.0)
