-- A list of events, one after the other.
use Rattle.std.specs.Prelude.{◌≡◌, ℕ, ◌+◌, ◌⊎◌, List, [], ◌∷◌, Option, Some, None, Result, Ok, Err, ⊤}
use Rattle.mari_core.specs.declared.event.Event.{Event}
use Rattle.mari_core.specs.declared.event.StepFault.{StepFault}
use Rattle.mari_core.specs.declared.event.StepFault.TheVariants.{Memory}
use Rattle.mari_core.specs.declared.event.ReplayFault.{ReplayFault}
use Rattle.mari_core.specs.Machine.{Machine, after, refusal, IsProper}

-- the search after these events
abbrev pub after_all : Machine → List Event → Machine
after_all s [] = s
after_all s (event ∷ events) = after_all (after s event) events

-- the refusal of the event at this place, if there is one, or else a later one
abbrev pub refused_or : ℕ → Option StepFault → Option ReplayFault → Option ReplayFault
refused_or place None later = later
refused_or place (Some fault) later = Some (record { place = place; fault = fault })

-- the first of these events that is refused, where they are counted on from this number, and why
abbrev pub first_refusal : ℕ → Machine → List Event → Option ReplayFault
first_refusal n s [] = None
first_refusal n s (event ∷ events) = refused_or (n + 1) (refusal s event) (first_refusal (n + 1) (after s event) events)

-- each event up to the first that is refused is proper where those before it lead
abbrev pub AreProper : Machine → List Event → Type 0
AreProper s [] = ⊤
AreProper s (event ∷ events) = IsProper s event × (refusal s event ≡ None → AreProper (after s event) events)

-- memory ran out before the first event
abbrev pub no_memory : ReplayFault
no_memory = record { place = 0; fault = Memory }

-- the answer to a list of events is the search after them, where none is refused, or the first refusal; or it ran out of
-- memory at the start, since no event takes any
abbrev pub IsReplayed : Machine → List Event → Result Machine ReplayFault → Type 0
IsReplayed s events (Ok last) = (first_refusal 0 s events ≡ None) × (last ≡ after_all s events)
IsReplayed s events (Err fault) = (first_refusal 0 s events ≡ Some fault) ⊎ (fault ≡ no_memory)
