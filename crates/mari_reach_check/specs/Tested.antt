-- What the test of a block, and of the first line, states.
use Rattle.std.specs.Prelude.{◌≡◌, ℕ, List, Option, Some, None}
use Rattle.mari_remain.specs.declared.books.Books.{Books}
use Rattle.mari_progress.specs.After.{also_after, market_after}
use Rattle.mari_progress.specs.Runs.{IsRunOf}
use Rattle.mari_check.specs.declared.fault.Fault.{Fault}
use Rattle.mari_check.specs.declared.fault.Fault.TheVariants as fault
use Rattle.mari_check.specs.Faults.{IsLeast}
use Rattle.mari_reach_text.specs.declared.named.NamedBlock.{NamedBlock}
use Rattle.mari_reach_check.specs.declared.day.Tested.{Tested}
use Rattle.mari_reach_check.specs.declared.day.Tested.TheVariants.{Faulty, Sound}
use Rattle.mari_reach_check.specs.Day.{IsReachFreeIn, all_printed}

-- its least fault, or that it has none and what it adds
abbrev pub TestsReach : Books → (budget : ℕ) → (before : List NamedBlock) → NamedBlock → Tested → Type 0
TestsReach books budget before b (Faulty least) = IsLeast (IsReachFreeIn books budget before b) least
TestsReach books budget before b (Sound settled) =
    ((any : Fault) → IsReachFreeIn books budget before b any)
    × IsRunOf books (market_after books (all_printed before)) (also_after books (all_printed before)) b.block settled

-- the fault of the first line is reported exactly where it is there
abbrev pub HeadStates : (right : Type 0) → Option Fault → Type 0
HeadStates right None = right
HeadStates right (Some f) = (right → ⊥) × (f ≡ fault.Heading)
