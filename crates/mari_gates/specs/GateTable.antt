-- States of gates as a table holds them.
use Rattle.std.specs.Prelude.{◌≡◌, ℕ, ◌<◌, List, Bool, slice_index_or}
use Rattle.mari_market.specs.declared.market.GateInfo.{GateInfo}
use Rattle.mari_market.specs.Bounds.{GateState}
use Rattle.mari_market.specs.Bounds.GateState.{Open, Closed, Free}
use Rattle.mari_market.specs.Prefix.{state_of}
use Rattle.mari_gates.specs.declared.states.GateState.{GateState as TableState}
use Rattle.mari_gates.specs.declared.states.GateState.TheVariants.{Open as TableOpen, Closed as TableClosed, Free as TableFree}

-- the state that an entry of the table stands for
abbrev pub meaning_of : TableState → GateState
meaning_of TableOpen = Open
meaning_of TableClosed = Closed
meaning_of TableFree = Free

-- the state of a gate by the table
abbrev pub state_in : List TableState → ℕ → GateState
state_in states g = meaning_of (slice_index_or states g TableFree)

-- the table has the states of the first n gates at a word
abbrev pub AreStatesBelow : List GateInfo → List Bool → List TableState → ℕ → Type 0
AreStatesBelow gates word states n = (g : ℕ) → g < n → state_in states g ≡ state_of gates word g
