-- How the check of a folder's publication is reported, and why its page wasn't had.
use Rattle.std.proofs.Common.{◌≡◌, ◌∙◌, ◌≤◌, ℕ, List, Option, Some, None, Result, Ok, Err, arith, refl}
use Rattle.mari_io.specs.Outside.{Pages, Rose, counted}
use Rattle.mari_io.specs.declared.shelf.Fetch.{Fetch}
use Rattle.mari_units.specs.declared.faults.Refusal.{Refusal}
use Rattle.mari_publish.specs.declared.fault.TextFault.TheVariants as text
use Rattle.mari_remain.specs.declared.books.Books.{Books}
use Rattle.mari_day.specs.declared.files.TheConstants.{PUBLICATION}
use Rattle.mari_check.specs.Streams.{IsStreamFetch}
use Rattle.mari_check.specs.declared.stream.StreamFault.{StreamFault}
use Rattle.mari_check.specs.declared.stream.StreamFault.TheVariants as stream
use Rattle.mari_reach_check.specs.Streams.{StreamStates}
use Rattle.mari_reach_check.specs.declared.verdict.ReachVerdict.{ReachVerdict}
use Rattle.mari_reach_check.specs.declared.verdict.ReachVerdict.TheVariants as verdict
use Rattle.mari_answers.specs.Lines.{invalid_line, refused_line, valid_line}
use Rattle.mari_answers.specs.Reports.{ReportsRefusal}
use Rattle.mari_answers.specs.Texts.{text_refusal}
use Rattle.mari_answers.specs.declared.status.Status.{Status}
use Rattle.mari_answers.specs.declared.status.Status.TheVariants as status
use Rattle.mari_answers.proofs.Causes.{fault_of, no-fault, page-fault, text-other}
use Rattle.mari_reach_commands.specs.Answers.{ReportsAnswer, ReportsPage}

-- a status that reports a fault of a fetch is that of the answer
module _ (cause : Fetch) (result : Status) (is : fault_of result ≡ Some cause) (before after : Option (List ℕ)) where
  refused : {Any : Type 0} (refusal : Refusal) → ReportsRefusal refusal before after result → Any
  refused refusal r = absurd (text-other cause result is before after (refused_line refusal) (status.Refused refusal) refl r)

  pub answer-fault : (answer : Result ReachVerdict StreamFault) → ReportsAnswer answer before after result → IsStreamFetch cause answer
  answer-fault (Ok (verdict.Valid first within)) r = absurd (text-other cause result is before after (valid_line first within) status.Done refl r)
  answer-fault (Ok (verdict.Invalid run fault)) r = absurd (text-other cause result is before after (invalid_line run fault) (status.Invalid run fault) refl r)
  answer-fault (Err (stream.Fetch why)) r = page-fault cause result is before after PUBLICATION why r
  answer-fault (Err (stream.Text (text.BadLine n))) r = refused (text_refusal (text.BadLine n)) r
  answer-fault (Err (stream.Text (text.BadOrder n))) r = refused (text_refusal (text.BadOrder n)) r
  answer-fault (Err (stream.Text (text.Truncated n))) r = refused (text_refusal (text.Truncated n)) r
  answer-fault (Err (stream.Text text.Memory)) r = absurd (no-fault cause result is status.Memory refl r.0)
  answer-fault (Err stream.Memory) r = absurd (no-fault cause result is status.Memory refl r.0)

-- out of memory nothing is said of a page
pub memory-states : (books : Books) (page : Option (List ℕ)) → StreamStates books page (Err stream.Memory)
memory-states books None = tt
memory-states books (Some page) = tt

-- what is reported after the books were read is so from the beginning
pub from-before : (books : Books) (folder : List ℕ) (before after : Option (List ℕ)) (result : Status) (pages other : Option Pages) (old mid new : ℕ) → other ≡ pages → old ≤ mid
    → ReportsPage other (Rose mid new) books folder before after result → ReportsPage pages (Rose old new) books folder before after result
from-before books folder before after result pages other old mid new same less h = record {
  answer = h.answer;
  states = λ reported e. h.states reported (same ∙ e);
  whole = λ reported e. h.whole reported (same ∙ e);
  cause = λ x. let r : counted mid ≤ new = h.cause x in omega (arith, less, r);
  said = h.said;
}
