-- Numbers, prices and words of a field.
use Rattle.std.specs.Prelude.{ℕ, ℤ, pos, negsuc, List, Option, Some, None, Result, Ok, Err, Bool, true, false, nat_le, int_le, neg_ℤ, ◌&&◌, if◌then◌else◌}
use Rattle.std.specs.Option.{option_and_then}
use Rattle.std.specs.Str.{bytes_eq}
use Rattle.mari_units.specs.Numbers.{price_of, whole_of}
use Rattle.mari_units.specs.declared.faults.NumberFault.{NumberFault}
use Rattle.mari_units.specs.declared.faults.NumberFault.TheVariants.{NotANumber, OutOfRange}
use Rattle.mari_units.specs.declared.numbers.Cents.{Cents}
use Rattle.mari_units.specs.declared.numbers.TheConstants.{CAP}

-- a number from the least to the greatest
abbrev pub within : ℕ → ℕ → ℤ → Option ℕ
within least greatest (pos n) = if nat_le least n && nat_le n greatest then Some n else None
within least greatest (negsuc n) = None

-- the whole number that a text writes, where it is from the least to the greatest
abbrev pub number_in : ℕ → ℕ → List ℕ → Option ℕ
number_in least greatest text = option_and_then (within least greatest) (whole_of text)

-- a price from -CAP to CAP
-- `IsPrice` says that a number is one; this gives the price that a field writes.
abbrev pub within_cap : ℤ → Option Cents
within_cap cents = if int_le (neg_ℤ CAP) cents && int_le cents CAP then Some (record { 0 = cents }) else None

-- the price that a text writes, where it is from -CAP to CAP
abbrev pub cents_in : List ℕ → Option Cents
cents_in text = option_and_then within_cap (price_of text)

-- whether a number is written, within its range or outside it
abbrev pub is_written : {X : Type 0} → Result X NumberFault → Bool
is_written (Ok x) = true
is_written (Err NotANumber) = false
is_written (Err OutOfRange) = true

-- whether a text is the first of two words, where it is one of them
abbrev pub is_first_of : List ℕ → List ℕ → List ℕ → Option Bool
is_first_of first second text = if bytes_eq text first then Some true else if bytes_eq text second then Some false else None
