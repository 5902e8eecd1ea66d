-- What it means to read something by its form: it is what is written so, or nothing is.
use Rattle.std.specs.Prelude.{◌≡◌, ℕ, ◌+◌, ◌*◌, ◌-◌, ◌/◌, ◌^◌, min, true, not, ◌==◌, List, [], ◌∷◌, fold, Option, Some, None, if◌then◌else◌, ℤ, Result, Ok, Err, ⊤}
use Rattle.std.specs.Borrow.{Bor}
use Rattle.std.specs.Char.{is_ascii_digit}
use Rattle.std.specs.List.{list_all, slice_split}
use Rattle.mari_units.specs.Numbers.{has_minus, with_sign}
use Rattle.mari_lines.specs.declared.fault.FormFault.{FormFault}
use Rattle.mari_lines.specs.declared.fault.FormFault.TheVariants as form_fault

-- x is in range and is written as t; or nothing in range is; or memory ran out
abbrev pub Reads : {X T : Type 0} → (X → Type 0) → (X → T) → T → Result X FormFault → Type 0
Reads InItsRange written t (Ok x) = InItsRange x × (written x ≡ t)
Reads InItsRange written t (Err form_fault.Formless) = (x : _) → InItsRange x → written x ≡ t → ⊥
Reads InItsRange written t (Err form_fault.Memory) = ⊤

-- no byte is the separator
abbrev pub Lacks : ℕ → List ℕ → Type 0
Lacks separator bytes = list_all (λ b. not (b == separator)) bytes ≡ true

-- the words of a text, with a space between two; none where the text has come to its end
abbrev pub words_in : Option (Bor (List ℕ)) → List (List ℕ)
words_in None = []
words_in (Some text) = slice_split (λ b. b == 32) text.now

-- the first word is that of x, and the others are left; or it is that of nothing in range; or memory ran out
abbrev pub ReadsFirst : {X : Type 0} → (X → Type 0) → (X → List ℕ) → List (List ℕ) → List (List ℕ) → Result X FormFault → Type 0
ReadsFirst InItsRange written words left (Ok x) = InItsRange x × (words ≡ written x ∷ left)
ReadsFirst InItsRange written words left (Err form_fault.Formless) = (x : _) (others : List (List ℕ)) → InItsRange x → words ≡ written x ∷ others → ⊥
ReadsFirst InItsRange written words left (Err form_fault.Memory) = ⊤

-- one byte more of a number: a digit is its last digit, and any other byte changes nothing
abbrev pub with_byte : ℕ → ℕ → ℕ
with_byte n b = if is_ascii_digit b then 10 * n + (b - 48) else n

-- the number that the digits of a text write
abbrev pub digits_in : List ℕ → ℕ
digits_in text = fold with_byte 0 text

-- the same in units, as far as the bits hold it, and after its sign
abbrev pub value_in : ℕ → List ℕ → ℤ
value_in unit text = with_sign (has_minus text) (min (min (digits_in text) (2 ^ 128 - 1) / unit) (2 ^ 127 - 1))
