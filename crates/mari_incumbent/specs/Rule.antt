-- The rule of the incumbent, over the views of all seats.
use Rattle.std.specs.Prelude.{◌≡◌, ℕ, ◌+◌, ◌-◌, ◌<◌, ◌≤◌, List, [], ◌∷◌, max}
use mathlib.Core.Option.{some}
use lib.ListN.{get_elem?}
use Rattle.atomic_table.specs.Table.{State, Step, Me}
use Rattle.mari_units.specs.Lists.{greatest_by}
use Rattle.mari_incumbent.specs.declared.rule.View.{View}

-- what a seat knows: the incumbent's first number, the parts of all seats, what it saw and offered, and its parts
abbrev pub view_of : ℕ → ℕ → ℕ → ℕ → ℕ → View
view_of first all seen offered parts = record { first = first; all = all; seen = seen; offered = offered; parts = parts }

-- the parts of all views
abbrev pub total : List View → ℕ
total [] = 0
total (v ∷ vs) = v.parts + total vs

-- what the rule says of one view
pub record Fits (first all incumbent : ℕ) (v : View) : Type 0 where
  pub below : v.seen ≤ incumbent
  pub with_parts : 0 < v.parts → (v.first ≡ first) × (v.all ≡ all) × (first ≤ v.offered) × (v.offered ≤ v.seen)
  pub without_parts : v.parts ≡ 0 → v.offered ≤ first

-- the rule over one incumbent and all views: the incumbent is at least what each saw; it is the greatest of the first
-- number and all that was offered; the parts sum to those of the start; and a view fits with its parts or without
pub record KeepsRule (first all : ℕ) (words : List ℕ) (views : List View) : Type 0 where
  pub incumbent : ℕ
  pub words_are : words ≡ incumbent ∷ []
  pub each : (id : ℕ) (v : View) → get_elem? views id ≡ some v → Fits first all incumbent v
  pub is_greatest : incumbent ≡ greatest_by (λ (v : View). v.offered) first views
  pub is_whole : total views ≡ all

-- the rule as a fact about the table
abbrev pub Holds : ℕ → ℕ → State (Unit {0}) View → Type 0
Holds first all s = KeepsRule first all s.words s.views

-- one load
abbrev pub Looks : Step (Unit {0}) → Me (Unit {0}) View → ℕ → Me (Unit {0}) View → Type 0
Looks s v found w = (w ≡ (view_of v.0.first v.0.all found v.0.offered v.0.parts, v.1)) × (v.0.seen ≤ found)

-- one fetch_max
abbrev pub Offers : Step (Unit {0}) → Me (Unit {0}) View → ℕ → Me (Unit {0}) View → Type 0
Offers s v found w = (w ≡ (view_of v.0.first v.0.all (max found s.first) (max v.0.offered s.first) v.0.parts, v.1)) × (v.0.seen ≤ found)

-- one part goes to a new seat
abbrev pub less_one : View → View
less_one v = view_of v.first v.all v.seen v.offered (v.parts - 1)

-- the new seat's view
abbrev pub one_part : View → View
one_part v = view_of v.first v.all v.seen v.first 1

-- a note of what was seen, without parts
abbrev pub note_of : View → View
note_of v = view_of v.first v.all v.seen 0 0

-- two seats in one
abbrev pub both_of : View → View → View
both_of v w = view_of v.first v.all (max v.seen w.seen) (max v.offered w.offered) (v.parts + w.parts)

-- what is left of a seat that was joined away
abbrev pub nothing : View
nothing = view_of 0 0 0 0 0
