-- Records by the number of their fields.
use Rattle.std.specs.Prelude.{◌≡◌, ◌≤◌, ℕ, List, [], ◌∷◌, Option, Some, None, nat_lt, length, if◌then◌else◌}
use Rattle.csv.specs.declared.parser.Action.{Action}
use Rattle.csv.specs.declared.parser.Action.TheVariants as act
use Rattle.csv.specs.declared.parser.State.{State}
use Rattle.csv.specs.declared.parser.State.TheVariants as st
use Rattle.mari_rows.specs.declared.rows.Row.{Row}
use Rattle.mari_rows.specs.declared.tested_rows.TestedRows.{TestedRows}
use Rattle.mari_rows.specs.declared.widths.Ended.{Ended}
use Rattle.mari_rows.specs.declared.widths.Ended.TheVariants as ended
use Rattle.mari_rows.specs.declared.widths.Place.{Place}
use Rattle.mari_rows.specs.declared.widths.Place.TheVariants as place

-- the line of the first row with more fields than `most`
abbrev pub first_wide : (most : ℕ) → List Row → Option ℕ
first_wide most [] = None
first_wide most (row ∷ rows) = if nat_lt most (length row.fields) then Some row.line else first_wide most rows

-- the wide line is that of the first row with more fields than some number, which is no less than the width
abbrev pub KnowsWide : TestedRows → Type 0
KnowsWide rows = (most : ℕ) × (rows.width ≤ most) × (rows.wide ≡ first_wide most rows.rows)

-- the state in which csv is at a place
abbrev pub state_of : Place → State
state_of place.RecordStart = st.StartRecord
state_of place.FieldStart = st.StartField
state_of place.InField = st.InField
state_of place.InQuotes = st.InQuoted
state_of place.AfterQuote = st.AfterQuote
state_of place.AfterReturn = st.AfterCr

-- what an action of csv ends
abbrev pub ended_by : Action → Ended
ended_by act.Skip = ended.Nothing
ended_by act.Copy = ended.Nothing
ended_by act.EndField = ended.Field
ended_by act.EndRecord = ended.Record
