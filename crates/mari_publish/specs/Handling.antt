-- What handling the first line after the handled ones comes to.
use Rattle.std.specs.Prelude.{◌≡◌, ℕ, ◌+◌, List, ◌∷◌, ◌++◌, Option, Some, None, Result, Ok, Err, ◌⊎◌}
use Rattle.mari_publish.specs.declared.publication.Part.{Part}
use Rattle.mari_lines.specs.declared.line.Line.{Line}
use Rattle.mari_publish.specs.declared.fault.TextFault.{TextFault}
use Rattle.mari_publish.specs.declared.fault.TextFault.TheVariants as fault
use Rattle.mari_publish.specs.declared.coming.Ahead.TheVariants as mark
use Rattle.mari_publish.specs.declared.coming.Handled.{Handled}
use Rattle.mari_publish.specs.declared.coming.Handled.TheVariants as step
use Rattle.mari_lines.specs.Ranges.{InRange}
use Rattle.mari_lines.specs.Reading.{Lacks}
use Rattle.mari_lines.specs.Spelling.{spelling}
use Rattle.mari_publish.specs.Faults.{IsFormless}
use Rattle.mari_publish.specs.Order.{after}
use Rattle.mari_publish.specs.Pieces.{ComeState, HasNoLine}

-- the bytes are all there, and begin with this line
pub record BeginsWith (r : ComeState) (here following : List ℕ) : Type 0 where
  pub all : r.ahead ≡ mark.Whole
  pub is : r.unread ≡ here ++ 10 ∷ following
  pub whole : Lacks 10 here

-- the line was taken, with the part that is whole with it
pub record IsTaken (old new : ComeState) (x : Option Part) : Type 0 where
  pub here : List ℕ
  pub following : List ℕ
  pub begins : BeginsWith old here following
  pub line : Line
  pub in_range : InRange line
  pub spelled : spelling line ≡ here
  pub follows : after old.kept old.kept.held line ≡ Some (new.kept, x)
  pub one_more : new.lines ≡ old.lines + 1
  pub all : new.ahead ≡ mark.Whole
  pub left : new.unread ≡ following

-- the line has no form
abbrev pub HasBadLine : ComeState → Type 0
HasBadLine r = (r.ahead ≡ mark.Ended) ⊎ ((here : List ℕ) × (following : List ℕ) × BeginsWith r here following × IsFormless here)

-- the line may not follow
pub record HasBadOrder (r : ComeState) : Type 0 where
  pub here : List ℕ
  pub following : List ℕ
  pub begins : BeginsWith r here following
  pub line : Line
  pub in_range : InRange line
  pub spelled : spelling line ≡ here
  pub misplaced : after r.kept r.kept.held line ≡ None

-- a line was taken, or no whole one is there; or what is wrong with it, and nothing changed
abbrev pub Handles : ComeState → ComeState → Result Handled TextFault → Type 0
Handles old new (Ok (step.Line x)) = IsTaken old new x
Handles old new (Ok step.Nothing) = HasNoLine old × (new ≡ old)
Handles old new (Err (fault.BadLine n)) = HasBadLine old × (n ≡ old.lines + 1) × (new ≡ old)
Handles old new (Err (fault.BadOrder n)) = HasBadOrder old × (n ≡ old.lines + 1) × (new ≡ old)
Handles old new (Err (fault.Truncated n)) = ⊥
Handles old new (Err fault.Memory) = new ≡ old
