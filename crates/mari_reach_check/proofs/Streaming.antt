-- A page that is read piece by piece.
use Rattle.std.proofs.Common.{◌≡◌, ◌∙◌, ℕ, true, List, [], ◌∷◌, ◌++◌, Option, Some, None, Ok, Err, sym, subst}
use Rattle.std.specs.List.{AllByRecursion}
use Rattle.std.proofs.lemmas.List.{append-nil}
use Rattle.mari_io.specs.declared.shelf.Fetch.TheVariants as fetch
use Rattle.mari_units.specs.declared.faults.Memory.{Memory as NoRoom}
use Rattle.mari_publish.specs.declared.fault.TextFault.{TextFault}
use Rattle.mari_publish.specs.declared.fault.TextFault.TheVariants as fault
use Rattle.mari_publish.specs.declared.stream.ReadStop.{ReadStop}
use Rattle.mari_publish.specs.declared.stream.ReadStop.TheVariants as read
use Rattle.mari_remain.specs.declared.books.Books.{Books}
use Rattle.mari_check.specs.Streams.{stream_fault}
use Rattle.mari_stream.specs.Forms.{Follow, IsWhole}
use Rattle.mari_stream.specs.Streams.{IsReportedFault, ReadStates, ReadStops}
use Rattle.mari_reach_lines.specs.declared.line.ReachLine.{ReachLine}
use Rattle.mari_reach_text.specs.Order.{ClaimFits, reach_form}
use Rattle.mari_reach_text.specs.Texts.{IsReachText, ReachPublication, reach_parts_of}
use Rattle.mari_reach_text.specs.declared.kept.ReachKept.{ReachKept}
use Rattle.mari_reach_text.specs.declared.kept.ReachPart.{ReachPart}
use Rattle.mari_reach_check.specs.Parts.{IsVerdictSoFar}
use Rattle.mari_reach_check.specs.SoFar.{KeepsVerdict}
use Rattle.mari_reach_check.specs.Streams.{FaultStates, FaultStops, SaysOf, VerdictStates}
use Rattle.mari_reach_check.specs.declared.stream.VerdictSoFar.{VerdictSoFar}
use Rattle.mari_reach_check.specs.declared.verdict.ReachVerdict.{ReachVerdict}

-- ---- why there is no verdict

pub fault-states : (Took : List ReachPart → Type 0) (Breaks : List ReachPart → ReachPart → NoRoom → Type 0) (page : Option (List ℕ)) (stop : ReadStop NoRoom)
    → ReadStates reach_form Took Breaks page (Err stop) → FaultStates page (stream_fault stop)
fault-states Took Breaks None (read.Unopened fetch.Failed) h = tt
fault-states Took Breaks None (read.Unopened fetch.Missing) h = tt
fault-states Took Breaks None read.Memory h = tt
fault-states Took Breaks (Some page) (read.Unopened fetch.Failed) h = tt
fault-states Took Breaks (Some page) (read.Fetch fetch.Failed) h = tt
fault-states Took Breaks (Some page) (read.Fetch fetch.TooLong) h = h.0
fault-states Took Breaks (Some page) (read.Text f) h = h.0
fault-states Took Breaks (Some page) (read.Part none) h = tt
fault-states Took Breaks (Some page) read.Memory h = tt
fault-states Took Breaks _ _ h = absurd h

pub fault-stops : {S : Type 0} (rest_of : S → Option (List ℕ)) (calls : S → ℕ) (page : List ℕ) (shelf : S) (stop : ReadStop NoRoom) → ReadStops reach_form rest_of calls page shelf stop
    → FaultStops rest_of calls page shelf (stream_fault stop)
fault-stops rest_of calls page shelf (read.Unopened f) h = tt
fault-stops rest_of calls page shelf (read.Fetch f) h = tt
fault-stops rest_of calls page shelf (read.Text (fault.BadLine n)) h = h
fault-stops rest_of calls page shelf (read.Text (fault.BadOrder n)) h = h
fault-stops rest_of calls page shelf (read.Text (fault.Truncated n)) h = tt
fault-stops rest_of calls page shelf (read.Text fault.Memory) h = tt
fault-stops rest_of calls page shelf (read.Part none) h = tt
fault-stops rest_of calls page shelf read.Memory h = tt

-- ---- the verdict

-- the laws of texts that are used below
pub record Laws : Type 0 where
  pub day : (text : List ℕ) (parts : List ReachPart) → IsWhole reach_form text parts → (p : ReachPublication) × IsReachText text p × (parts ≡ reach_parts_of p)
  pub whole : (text : List ℕ) (p : ReachPublication) → IsReachText text p → IsWhole reach_form text (reach_parts_of p)
  pub same : (text : List ℕ) (parts others : List ReachPart) → IsWhole reach_form text parts → IsWhole reach_form text others → parts ≡ others
  pub reported : (page : List ℕ) (parts : List ReachPart) (f : TextFault) → IsWhole reach_form page parts → IsReportedFault reach_form page f → ⊥

module _ (laws : Laws) where
  module _ (books : Books) (now : VerdictSoFar) (Breaks : List ReachPart → ReachPart → NoRoom → Type 0) (page : Option (List ℕ)) where
    pub verdict-states : (done : Unit {0}) (v : ReachVerdict) → now.found ≡ Some v → ReadStates reach_form (λ parts. KeepsVerdict books parts now) Breaks page (Ok done) → VerdictStates books page v
    verdict-states done v e h = by page h
      where
        by : (o : Option (List ℕ)) → ReadStates reach_form (λ parts. KeepsVerdict books parts now) Breaks o (Ok done) → VerdictStates books o v
        by None h = absurd h
        by (Some text) h =
            let t = h.1 in
            let day = laws.day text t.parts t.whole in
            let settles = subst (IsVerdictSoFar books t.parts now.day) e t.took.found in
            (h.0, (day.0, day.1, settles day.0 [] (sym day.2 ∙ sym (append-nil t.parts))))

    pub says-verdict : (done : Unit {0}) (v : ReachVerdict) → now.found ≡ Some v → ReadStates reach_form (λ parts. KeepsVerdict books parts now) Breaks page (Ok done)
        → (text : List ℕ) (p : ReachPublication) → page ≡ Some text → IsReachText text p → SaysOf books p (Ok v)
    says-verdict done v e h text p is page_of_p =
        let own = subst (λ (o : Option (List ℕ)). ReadStates reach_form (λ parts. KeepsVerdict books parts now) Breaks o (Ok done)) is h in
        let t = own.1 in
        let settles = subst (IsVerdictSoFar books t.parts now.day) e t.took.found in
        settles p [] (laws.same text (reach_parts_of p) t.parts (laws.whole text p page_of_p) t.whole ∙ sym (append-nil t.parts))

    pub says-fault : (stop : ReadStop NoRoom) → ReadStates reach_form (λ parts. KeepsVerdict books parts now) Breaks page (Err stop)
        → (text : List ℕ) (p : ReachPublication) → page ≡ Some text → IsReachText text p → SaysOf books p (Err (stream_fault stop))
    says-fault (read.Unopened f) h text p is page_of_p = tt
    says-fault (read.Fetch f) h text p is page_of_p = tt
    says-fault (read.Text f) h text p is page_of_p =
        let own = subst (λ (o : Option (List ℕ)). ReadStates reach_form (λ parts. KeepsVerdict books parts now) Breaks o (Err (read.Text f))) is h in
        laws.reported text (reach_parts_of p) f (laws.whole text p page_of_p) own.0
    says-fault (read.Part none) h text p is page_of_p = tt
    says-fault read.Memory h text p is page_of_p = tt

-- ---- the last of the parts

pub last-fits : (parts : List ReachPart) (x : ReachPart) → AllByRecursion ClaimFits (parts ++ x ∷ []) → ClaimFits x
last-fits [] x h = h.0
last-fits (y ∷ parts) x h = last-fits parts x h.1
