-- Rows of very many fields.
use Rattle.std.proofs.Common.{◌≡◌, ◌≤◌, ◌<◌, ◌+◌, ◌∙◌, ℕ, Bool, true, false, List, [], ◌∷◌, Option, Some, None, Result, Ok, Err, eqb, length, refl, sym, ap, arith, IfOk, OnOk, if◌then◌else◌}
use Rattle.std.specs.Prelude.{nat_lt}
use Rattle.std.specs.Cmp.Lexicographic.{as_long}
use Rattle.std.specs.Option.{option_eq}
use Rattle.std.specs.Str.{bytes_eq}
use Rattle.std.proofs.lemmas.Bool.{eqb-true, le-ltb, ltb-true, ne_eqb}
use Rattle.mari_rows.specs.Headers.{is_headed}
use Rattle.mari_rows.specs.Rows.{fault_of_row, first_row_fault, is_header, rows_after_header, rows_from}
use Rattle.mari_rows.specs.Widths.{first_wide, KnowsWide}
use Rattle.mari_rows.specs.declared.faults.RowFault.{RowFault}
use Rattle.mari_rows.specs.declared.faults.RowFault.TheVariants.{BadHeader, BadRow}
use Rattle.mari_rows.specs.declared.rows.Row.{Row}
use Rattle.mari_rows.specs.declared.tested_rows.TestedRows.{TestedRows}
use Rattle.mari_rows.proofs.RowLemmas.{fault-here, no_header, width-of}

-- what the test of a line states
pub equal-some : (o : Option ℕ) (k : ℕ) → option_eq eqb o (Some k) ≡ true → o ≡ Some k
equal-some None k e = cc e
equal-some (Some j) k e = ap Some (eqb-true j k e)

-- the first wide row is no row above this line
wide-below : (most line wide : ℕ) (records : List (List (List ℕ))) → Some wide ≡ first_wide most (rows_from line records) → line ≤ wide
wide-below most line wide [] e = cc e
wide-below most line wide (fields ∷ records) e = by (nat_lt most (length fields)) (wide-below most (line + 1) wide records) e
  where
    by : (b : Bool) → (Some wide ≡ first_wide most (rows_from (line + 1) records) → line + 1 ≤ wide)
        → Some wide ≡ (if b then Some line else first_wide most (rows_from (line + 1) records)) → line ≤ wide
    by true below e = let same : wide ≡ line = cc e in omega (arith, same)
    by false below e = omega (arith, below e)

-- where the next row's line is that of the first wide row, it is this row
wide-next : (most line : ℕ) (records : List (List (List ℕ))) → Some line ≡ first_wide most (rows_from line records)
    → (fields : List (List ℕ)) × (rest : List (List (List ℕ))) × (records ≡ fields ∷ rest) × (most < length fields)
wide-next most line [] e = cc e
wide-next most line (fields ∷ records) e = by (nat_lt most (length fields)) refl e
  where
    by : (b : Bool) → nat_lt most (length fields) ≡ b → Some line ≡ (if b then Some line else first_wide most (rows_from (line + 1) records))
        → (f : List (List ℕ)) × (rest : List (List (List ℕ))) × (fields ∷ records ≡ f ∷ rest) × (most < length f)
    by true wide e = (fields, records, refl, ltb-true most (length fields) wide)
    by false narrow e = absurd (omega (arith, wide-below most (line + 1) line records e))

-- a wide record is no header
pub wide-header : (most : ℕ) (columns : List (List ℕ)) (records : List (List (List ℕ))) → length columns ≤ most → Some 1 ≡ first_wide most (rows_from 1 records)
    → (rows_after_header columns records ≡ Err BadHeader) × (is_headed columns records ≡ false)
wide-header most columns records few e =
    let next = wide-next most 1 records e in
    let other = no_header columns next.0 (λ same. absurd (omega (arith, same, few, next.3))) in
    rw (next.2, ← other) (refl, refl)

-- a record of another width than is wanted
wide-fault : (width most line : ℕ) (fields : List (List ℕ)) → width ≤ most → most < length fields
    → fault_of_row width (record { line = line; fields = fields }) ≡ Some (BadRow line)
wide-fault width most line fields few wide = rw (ne_eqb (length fields) width (λ same. absurd (omega (arith, same, few, wide)))) refl

-- the first wide row is faulty
pub wide-first : (width most line : ℕ) (rows : List Row) (records : List (List (List ℕ))) → width ≤ most → rows ≡ rows_from line records
    → Some line ≡ first_wide most rows → first_row_fault width rows ≡ Some (BadRow line)
wide-first width most line rows records few from e =
    let next = wide-next most line records (e ∙ ap (first_wide most) from) in
    fault-here width (record { line = line; fields = next.0 }) rows (rows_from (line + 1) next.1)
    (from ∙ ap (rows_from line) next.2) (wide-fault width most line next.0 few next.3)

-- a row of the width that is wanted isn't wide
narrow-row : (width most : ℕ) (row : Row) (rows : List Row) → width ≤ most → fault_of_row width row ≡ None → first_wide most (row ∷ rows) ≡ first_wide most rows
narrow-row width most row rows few none = rw (le-ltb most (length row.fields) (omega (arith, width-of width row none, few))) refl

-- what is known after one more row that has no fault
pub known-later : (rows : TestedRows) (rest : List Row) (row : Row) → KnowsWide rows → rows.rows ≡ row ∷ rest → fault_of_row rows.width row ≡ None
    → KnowsWide (record rows { rows = rest })
known-later rows rest row known next none =
    (known.0, known.1, known.2 ∙ ap (first_wide known.0) next ∙ narrow-row rows.width known.0 row rest known.1 none)

-- and after the read of the next row
pub known-after : (rows : TestedRows) (rest : List Row) (row : Row) (read : Result Bool RowFault) → KnowsWide rows
    → IfOk read (λ found. found ≡ false → (rows.rows ≡ []) × (rest ≡ []))
    → IfOk read (λ found. found ≡ true → (rows.rows ≡ row ∷ rest) × (fault_of_row rows.width row ≡ None))
    → OnOk read (KnowsWide (record rows { rows = rest }))
known-after rows rest row (Ok true) known none read = let next = read refl in known-later rows rest row known next.0 next.1
known-after rows rest row (Ok false) known none read = let next = none refl in (known.0, known.1, known.2 ∙ ap (first_wide known.0) (next.0 ∙ sym next.1))
known-after rows rest row (Err fault) known none read = tt

-- no header is wide
pub narrow-header : (most : ℕ) (columns : List (List ℕ)) (records : List (List (List ℕ))) (rows : List Row) → length columns ≤ most
    → rows_after_header columns records ≡ Ok rows → first_wide most (rows_from 1 records) ≡ first_wide most rows
narrow-header most columns [] rows few read = cc read
narrow-header most columns (header ∷ records) rows few read = by (is_header columns header) refl read
  where
    by : (b : Bool) → is_header columns header ≡ b → (if b then Ok (rows_from 2 records) else Err BadHeader) ≡ Ok rows
        → first_wide most (rows_from 1 (header ∷ records)) ≡ first_wide most rows
    by true headed read =
        let same : rows_from 2 records ≡ rows = cc read in
        rw (le-ltb most (length header) (omega (arith, as_long bytes_eq header columns headed, few))) (ap (first_wide most) same)
    by false headed read = cc read
