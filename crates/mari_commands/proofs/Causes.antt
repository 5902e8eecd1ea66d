-- A status that says why a page can't be had is that of such an outcome.
use Rattle.std.proofs.Common.{◌≡◌, ◌⊎◌, ℕ, List, Option, Some, Result, arith}
use Rattle.mari_io.specs.declared.shelf.Fetch.{Fetch}
use Rattle.mari_io.specs.Outside.{Counts, Pages}
use Rattle.mari_blocks.specs.declared.clearing.JointText.{JointText}
use Rattle.mari_day.specs.Reading.{IsFetchFault}
use Rattle.mari_day.specs.declared.reading.BooksFault.{BooksFault}
use Rattle.mari_answers.specs.declared.status.Status.{Status}
use Rattle.mari_answers.proofs.Causes.{fault_of}
use Rattle.mari_commands.specs.declared.outcome.Outcome.{Outcome}
use Rattle.mari_commands.specs.Outcome.{IsNoPage, IsOwn, Reported, ReportsQuarters}

module _ (cause : Fetch) (result : Status) (is : fault_of result ≡ Some cause) (before after : Option (List ℕ)) where
  pub quarters-fault : (given : Result JointText BooksFault) → ReportsQuarters given before after result → IsFetchFault cause given
  quarters-fault given r = grind arith

  outcome-fault : (pages : Option Pages) (late : Type 0) (o : Outcome) → Reported pages late o before after result → IsNoPage cause o ⊎ IsOwn o
  outcome-fault pages late o r = grind arith

-- so the count of that cause rose, as the outcome came about or as it was reported
pub cause-counts : (cause : Fetch) (wanted : Status) → fault_of wanted ≡ Some cause → (pages : Option Pages) (late : Type 0) (o : Outcome) (before after : Option (List ℕ)) (result : Status)
    → Reported pages late o before after result → (old mid new : ℕ) → Counts (IsNoPage cause o) old mid → Counts (IsOwn o × (result ≡ wanted)) mid new
    → Counts (result ≡ wanted) old new
cause-counts cause wanted is pages late o before after result reported old mid new first later-on = grind (arith, outcome-fault, fault_of)
