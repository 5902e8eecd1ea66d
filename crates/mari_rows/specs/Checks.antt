-- The checks of a file, each with its number and its name.
use Rattle.std.specs.Prelude.{◌≡◌, ℕ, List, codes, Option, Some, None, Result, Ok, Err, ⊤}
use Rattle.mari_rows.specs.declared.checks.LineFault.{LineFault}
use Rattle.mari_rows.specs.declared.checks.LineFault.TheVariants as fault
use Rattle.mari_rows.specs.declared.checks.RowCheck.{RowCheck}
use Rattle.mari_rows.specs.declared.checks.RowCheck.TheVariants.{BadHeader, BadRow, NotUtf8}
use Rattle.mari_rows.specs.declared.faults.BookFault.{BookFault}
use Rattle.mari_rows.specs.declared.faults.BookFault.TheVariants as refused

-- the numbers and the names of the checks that every file has
abbrev pub row_check_number : RowCheck → ℕ
row_check_number BadHeader = 1
row_check_number BadRow = 2
row_check_number NotUtf8 = 3

unfoldable pub row_check_name : RowCheck → List ℕ
row_check_name BadHeader = codes "BadHeader"
row_check_name BadRow = codes "BadRow"
row_check_name NotUtf8 = codes "NotUtf8"

module _ {C : Type 0} (number : C → ℕ) where
  -- the refusal that a fault is at a line
  abbrev pub refusal_at : LineFault C → ℕ → BookFault
  refusal_at (fault.Fails check) line = refused.At line (number check)
  refusal_at fault.Memory line = refused.Memory

  -- what an answer to one more line says: its book with that line, where no check fails, and else the first that fails
  abbrev pub TakesLine : {X : Type 0} → Result X (LineFault C) → Option ℕ → (X → Type 0) → Type 0
  TakesLine (Ok x) failing Holds = (failing ≡ None) × Holds x
  TakesLine (Err (fault.Fails check)) failing Holds = failing ≡ Some (number check)
  TakesLine (Err fault.Memory) failing Holds = ⊤

  -- what an answer to a line by itself says: what the line states, where no check fails, and else the first that fails
  abbrev pub IsRead : {X : Type 0} → Result X C → Option ℕ → X → Type 0
  IsRead (Ok x) failing stated = (failing ≡ None) × (x ≡ stated)
  IsRead (Err check) failing stated = failing ≡ Some (number check)
