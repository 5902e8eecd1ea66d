-- Which digits are a printed number, and which bytes aren't.
use Rattle.std.proofs.Common.{◌≡◌, ◌≤◌, ◌<◌, ◌⊎◌, inl, inr, ℕ, ◌+◌, ◌*◌, ◌-◌, ◌^◌, false, List, [], ◌∷◌, ◌++◌, length, take, drop, get_or, fold, sym, ap, ◌∙◌, subst, arith}
use Rattle.std.specs.Char.{is_ascii_digit}
use Rattle.std.specs.List.{list_all}
use Rattle.std.specs.Fmt.{decimal}
use Rattle.std.proofs.lemmas.Bool.{both_ways, cases_lt}
use Rattle.std.proofs.lemmas.List.{take-append-drop}
use Rattle.std.proofs.lemmas.List.Folds.{list_all_at}
use Rattle.std.proofs.lemmas.List.Sums.{fold-append}
use Rattle.std.proofs.lemmas.Fmt.{decimal_digit, first_decimal, digits_decimal, digits_value-decimal, decimal-digits_value}
use Rattle.mari_units.specs.Numbers.{value_of_digits}
use Rattle.mari_units.proofs.Digits.{AreDigits, own}

-- a number that begins with a zero is just that
no_idle_zero : (n : ℕ) → n < 2 ^ 64 → get_or (decimal n) 0 0 ≡ 48 → length (decimal n) ≡ 1
no_idle_zero n small e = by (cases_lt 0 n)
  where
    by : (0 < n) ⊎ (n ≤ 0) → length (decimal n) ≡ 1
    by (inl some) = let first = first_decimal n some small in absurd (omega (arith, first, e))
    by (inr none) = ap length (decimal_digit n (omega arith))

pub zero_alone : (n : ℕ) (text : List ℕ) → n < 2 ^ 64 → decimal n ≡ text → get_or text 0 0 ≡ 48 → 1 < length text → ⊥
zero_alone n text small e zero more =
    let one = no_idle_zero n small (ap (λ t. get_or t 0 0) e ∙ zero) in
    let same = ap length e in
    omega (arith, one, same, more)

-- each byte of a number is a digit
pub other_byte : (n : ℕ) (text : List ℕ) (i : ℕ) → n < 2 ^ 64 → decimal n ≡ text → i < length text → is_ascii_digit (get_or text i 0) ≡ false → ⊥
other_byte n text i small e lt not = both_ways (list_all is_ascii_digit text) (list_all_at is_ascii_digit text i 0 lt not) (subst (λ t. AreDigits t) e (digits_decimal own n small))

-- further digits make it no smaller
from_more : (a : ℕ) (ds : List ℕ) → a ≤ fold (λ n d. 10 * n + (d - 48)) a ds
from_more a [] = omega arith
from_more a (d ∷ ds) = let le = from_more (10 * a + (d - 48)) ds in omega (arith, le)

pub digits_so_far : (n k : ℕ) (text : List ℕ) → n < 2 ^ 64 → decimal n ≡ text → value_of_digits (take k text) ≤ n
digits_so_far n k text small e =
    let whole = fold-append (λ n d. 10 * n + (d - 48)) 0 (take k text) (drop k text) in
    let more = from_more (value_of_digits (take k text)) (drop k text) in
    let all : value_of_digits text ≡ n = ap value_of_digits (sym e) ∙ digits_value-decimal own n small in
    let parts : value_of_digits (take k text ++ drop k text) ≡ value_of_digits text = ap value_of_digits (take-append-drop k text) in
    omega (arith, whole, more, all, parts)

-- digits without an idle zero are the number that they write
pub digits_are : (n : ℕ) (text : List ℕ) → n < 2 ^ 64 → n ≡ value_of_digits text → AreDigits text → 0 < length text
    → (get_or text 0 0 ≡ 48 → length text ≡ 1) → decimal n ≡ text
digits_are n text small is digits some first =
    let fits : value_of_digits text < 2 ^ 64 = omega (arith, is, small) in
    ap decimal is ∙ decimal-digits_value own text digits some first fits
