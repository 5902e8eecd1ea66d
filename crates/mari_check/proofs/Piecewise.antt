-- A page that is read piece by piece.
use Rattle.std.proofs.Common.{◌≡◌, ℕ, List, [], Option, Some, None, Result, Ok, Err, ◌⊎◌, inl, inr, sym, subst}
use Rattle.std.proofs.lemmas.List.{append-nil}
use Rattle.mari_io.specs.declared.shelf.Fetch.{Fetch}
use Rattle.mari_io.specs.declared.shelf.Fetch.TheVariants as fetch
use Rattle.mari_units.specs.declared.faults.Memory.{Memory as NoRoom}
use Rattle.mari_publish.specs.Faults.{IsOutcome}
use Rattle.mari_publish.specs.Pieces.{parts_of}
use Rattle.mari_publish.specs.Streams.{ReadStates, ReadStops}
use Rattle.mari_publish.specs.declared.fault.TextFault.{TextFault}
use Rattle.mari_publish.specs.declared.fault.TextFault.TheVariants as fault
use Rattle.mari_publish.specs.declared.publication.Part.{Part}
use Rattle.mari_publish.specs.declared.publication.Publication.{Publication}
use Rattle.mari_publish.specs.declared.stream.ReadStop.{ReadStop}
use Rattle.mari_publish.specs.declared.stream.ReadStop.TheVariants as read
use Rattle.mari_publish.proofs.Outcomes.{text_answer}
use Rattle.mari_publish.proofs.Paging.{same-fault}
use Rattle.mari_remain.specs.declared.books.Books.{Books}
use Rattle.mari_check.specs.declared.stream.StreamFault.{StreamFault}
use Rattle.mari_check.specs.declared.stream.StreamFault.TheVariants.{Fetch as OfFetch, Text as OfText, Memory as NoMemory}
use Rattle.mari_check.specs.declared.stream.VerdictSoFar.{VerdictSoFar}
use Rattle.mari_check.specs.declared.verdict.Verdict.{Verdict}
use Rattle.mari_check.specs.SoFar.{KeepsVerdict}
use Rattle.mari_check.specs.Streams.{FaultStates, FaultStops, IsVerdictSoFar, SameAsRead, StreamStates, VerdictStates, stream_fault}
use Rattle.mari_check.specs.Verdicts.{IsVerdict}

-- ---- why there is no verdict

pub fault-states : (Took : List Part → Type 0) (Breaks : List Part → Part → NoRoom → Type 0) (page : Option (List ℕ)) (stop : ReadStop NoRoom) → ReadStates Took Breaks page (Err stop)
    → FaultStates page (stream_fault stop)
fault-states Took Breaks None (read.Unopened fetch.Failed) h = tt
fault-states Took Breaks None (read.Unopened fetch.Missing) h = tt
fault-states Took Breaks None read.Memory h = tt
fault-states Took Breaks (Some page) (read.Unopened fetch.Failed) h = tt
fault-states Took Breaks (Some page) (read.Fetch fetch.Failed) h = tt
fault-states Took Breaks (Some page) (read.Fetch fetch.TooLong) h = h.0
fault-states Took Breaks (Some page) (read.Text f) h = h.0
fault-states Took Breaks (Some page) (read.Part none) h = tt
fault-states Took Breaks (Some page) read.Memory h = tt
fault-states Took Breaks _ _ h = absurd h

pub fault-stops : {S : Type 0} (rest_of : S → Option (List ℕ)) (calls : S → ℕ) (page : List ℕ) (shelf : S) (stop : ReadStop NoRoom) → ReadStops rest_of calls page shelf stop
    → FaultStops rest_of calls page shelf (stream_fault stop)
fault-stops rest_of calls page shelf (read.Unopened f) h = tt
fault-stops rest_of calls page shelf (read.Fetch f) h = tt
fault-stops rest_of calls page shelf (read.Text (fault.BadLine n)) h = h
fault-stops rest_of calls page shelf (read.Text (fault.BadOrder n)) h = h
fault-stops rest_of calls page shelf (read.Text (fault.Truncated n)) h = tt
fault-stops rest_of calls page shelf (read.Text fault.Memory) h = tt
fault-stops rest_of calls page shelf (read.Part none) h = tt
fault-stops rest_of calls page shelf read.Memory h = tt

-- ---- the verdict

pub verdict-states : (books : Books) (now : VerdictSoFar) (Breaks : List Part → Part → NoRoom → Type 0) (page : Option (List ℕ)) (done : Unit {0}) (v : Verdict) → now.found ≡ Some v
    → ReadStates (λ parts. KeepsVerdict books parts now) Breaks page (Ok done) → VerdictStates books page v
verdict-states books now Breaks None done v e h = absurd h
verdict-states books now Breaks (Some page) done v e h =
    let p = h.1.publication in
    let settles = subst (IsVerdictSoFar books (parts_of p) now.day) e h.1.took.found in
    (h.0, (p, h.1.is, settles p [] (sym (append-nil (parts_of p)))))

-- ---- the same as reading the page whole

fault-same : (books : Books) (answer : Result Publication TextFault) (f : TextFault) → (answer ≡ Err f) ⊎ (answer ≡ Err fault.Memory) → SameAsRead books answer (Err (OfText f))
fault-same books (Ok p) f (inl e) = absurd cc
fault-same books (Ok p) f (inr e) = absurd cc
fault-same books (Err g) f (inl e) = inl cc
fault-same books (Err g) f (inr e) = inr cc

verdict-same : (books : Books) (answer : Result Publication TextFault) (p : Publication) (v : Verdict)
    → IsVerdict books p v → (answer ≡ Ok p) ⊎ (answer ≡ Err fault.Memory) → SameAsRead books answer (Ok v)
verdict-same books (Ok q) p v h (inl e) = let same : p ≡ q = cc in subst (λ x. IsVerdict books x v) same h
verdict-same books (Ok q) p v h (inr e) = absurd cc
verdict-same books (Err g) p v h (inl e) = absurd cc
verdict-same books (Err g) p v h (inr e) = cc

pub same-as-read : (books : Books) (page : List ℕ) (answer : Result Publication TextFault) (result : Result Verdict StreamFault)
    → IsOutcome page answer → StreamStates books (Some page) result → SameAsRead books answer result
same-as-read books page answer (Ok v) o (short, (p, read, is)) = verdict-same books answer p v is (text_answer page answer o p read)
same-as-read books page answer (Err (OfText f)) o h = fault-same books answer f (same-fault page answer f o h)
same-as-read books page answer (Err (OfFetch f)) o h = nothing-said answer f
  where
    nothing-said : (a : Result Publication TextFault) (f : Fetch) → SameAsRead books a (Err (OfFetch f))
    nothing-said (Ok p) f = tt
    nothing-said (Err e) f = tt
same-as-read books page answer (Err NoMemory) o h = nothing-said answer
  where
    nothing-said : (a : Result Publication TextFault) → SameAsRead books a (Err NoMemory)
    nothing-said (Ok p) = tt
    nothing-said (Err e) = tt

pub states-whole : (books : Books) (reported : Option (List ℕ)) (page : List ℕ) (answer : Result Publication TextFault) (result : Result Verdict StreamFault)
    → StreamStates books reported result → reported ≡ Some page → IsOutcome page answer
    → SameAsRead books answer result
states-whole books reported page answer result states is o = same-as-read books page answer result o (subst (λ p. StreamStates books p result) is states)
