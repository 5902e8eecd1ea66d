-- The publication of the parts that have been gathered.
use Rattle.std.specs.Prelude.{◌≡◌, ℕ, List, [], unwrap_or, Option, Some, None, Result, Ok, Err}
use Rattle.mari_publish.specs.declared.publication.Publication.{Publication}
use Rattle.mari_lines.specs.declared.line.Line.{Line}
use Rattle.mari_publish.specs.declared.held.Held.{Held}
use Rattle.mari_publish.specs.declared.held.Held.TheVariants as held
use Rattle.mari_publish.specs.declared.held.Kept.{Kept}
use Rattle.mari_publish.specs.declared.publication.Part.{Part}
use Rattle.mari_publish.specs.declared.fault.TextFault.{TextFault}
use Rattle.mari_publish.specs.declared.fault.TextFault.TheVariants as fault
use Rattle.mari_publish.specs.declared.reading.Gathered.{Gathered}
use Rattle.mari_publish.specs.declared.taking.TakeFault.{TakeFault}
use Rattle.mari_publish.specs.declared.taking.TakeFault.TheVariants as take_fault
use Rattle.mari_publish.specs.Faults.{IsFormless}
use Rattle.mari_publish.specs.Order.{after}
use Rattle.mari_lines.specs.Ranges.{InRange}
use Rattle.mari_lines.specs.Spelling.{spelling}

-- what has been gathered, as a publication
abbrev pub seen : Gathered → Publication
seen g = record {
  date = unwrap_or g.date [];
  quarters = g.quarters;
  budget = g.budget;
  blocks = g.blocks.items;
  operators = g.operators;
  providers = g.providers;
}

-- a line was taken, with the part that is whole with it; or there was none, and nothing changed
abbrev pub Took : Kept → List ℕ → Kept → Result (Option Part) TakeFault → Type 0
Took old here new (Ok x) = (l : Line) × InRange l × (spelling l ≡ here) × (after old old.held l ≡ Some (new, x))
Took old here new (Err take_fault.Formless) = IsFormless here × (new ≡ old)
Took old here new (Err take_fault.OutOfOrder) = (l : Line) × InRange l × (spelling l ≡ here) × (after old old.held l ≡ None) × (new ≡ old)
Took old here new (Err take_fault.Memory) = new ≡ old

-- the fault of a text in whose line of this number a line's fault is
abbrev pub text_fault : (line : ℕ) → TakeFault → TextFault
text_fault line take_fault.Formless = fault.BadLine line
text_fault line take_fault.OutOfOrder = fault.BadOrder line
text_fault line take_fault.Memory = fault.Memory

-- the publication, if the text ends where one does
abbrev pub Finishes : Gathered → Held → List ℕ → ℕ → Result Publication TextFault → Type 0
Finishes g h rest n (Ok p) = (h ≡ held.Done) × (rest ≡ []) × (p ≡ seen g)
Finishes g h rest n (Err (fault.Truncated m)) = (m ≡ n) × (h ≡ held.Done → rest ≡ [] → g.date ≡ None)
Finishes g h rest n (Err _) = ⊥
