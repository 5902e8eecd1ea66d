-- A sign, and what stands after it.
use Rattle.std.proofs.Common.{◌≡◌, ◌≤◌, ◌<◌, ◌^◌, ◌/◌, ◌%◌, ◌+◌, ℕ, Bool, true, false, List, [], ◌∷◌, ◌++◌, ℤ, pos, negsuc, neg_ℤ, ◌≤ℤ◌, int_lt, length, take, drop, refl, sym, ap, ◌∙◌, arith, to_z, of_z}
use mir.Syntax.{w64}
use Rattle.std.proofs.lemmas.Int.{ints}
use Rattle.std.specs.Fmt.{decimal, signed_decimal}
use Rattle.std.specs.Int.RustNames.{unsigned_abs}
use Rattle.std.proofs.lemmas.Bool.{both_ways}
use Rattle.std.proofs.lemmas.List.{append-nil, append_assoc, length-append}
use Rattle.std.proofs.Math.Seq.{take-append_seam, drop-append_seam}
use Rattle.mari_units.specs.Numbers.{has_minus, sign_of, printed_cents}
use Rattle.mari_lines.proofs.Printed.{no_minus, not_below, digits_in_hundredths}
use Rattle.mari_lines.specs.Reading.{digits_in}
use Rattle.mari_lines.proofs.Canonical.{signed_parts}

-- a text has one sign, and one rest that begins with none
pub same_parts : (a b : Bool) (xs ys : List ℕ) → sign_of a ++ xs ≡ sign_of b ++ ys → has_minus xs ≡ false → (b ≡ false → has_minus ys ≡ false) → (a ≡ b) × (xs ≡ ys)
same_parts true true xs ys e x y = (refl, cc)
same_parts true false xs ys e x y = absurd (both_ways (has_minus ys) (y refl) (ap has_minus (sym e)))
same_parts false true xs ys e x y = absurd (both_ways (has_minus xs) x (ap has_minus e))
same_parts false false xs ys e x y = (refl, e)

-- a whole number of this sign and size, and a price
pub whole_parts : (z : ℤ) (b : Bool) (size text : List ℕ) → unsigned_abs z < 2 ^ 64 → signed_decimal z ≡ text → text ≡ sign_of b ++ size → (b ≡ false → has_minus size ≡ false)
    → (int_lt z (pos 0) ≡ b) × (decimal (unsigned_abs z) ≡ size)
whole_parts z b size text small e parts unsigned =
    let no = ap has_minus (sym (append-nil (decimal (unsigned_abs z)))) ∙ no_minus (unsigned_abs z) [] small in
    same_parts (int_lt z (pos 0)) b (decimal (unsigned_abs z)) size (sym (signed_parts z) ∙ e ∙ parts) no unsigned

abbrev pub hundredths_text : ℕ → List ℕ
hundredths_text n = decimal (n / 100) ++ 46 ∷ (48 + n % 100 / 10) ∷ (48 + n % 10) ∷ []

pub price_parts : (z : ℤ) (b : Bool) (size text : List ℕ) → unsigned_abs z < 2 ^ 64 → printed_cents z ≡ text → text ≡ sign_of b ++ size → (b ≡ false → has_minus size ≡ false)
    → (int_lt z (pos 0) ≡ b) × (hundredths_text (unsigned_abs z) ≡ size)
price_parts z b size text small e parts unsigned =
    same_parts (int_lt z (pos 0)) b (hundredths_text (unsigned_abs z)) size
    (sym (append_assoc (sign_of (int_lt z (pos 0))) (decimal (unsigned_abs z / 100)) _) ∙ e ∙ parts) (no_minus (unsigned_abs z / 100) _ (omega arith))
    unsigned

-- the same the other way
pub whole_of_parts : (z : ℤ) (b : Bool) (n : ℕ) (size text : List ℕ) → int_lt z (pos 0) ≡ b → unsigned_abs z ≡ n → decimal n ≡ size → text ≡ sign_of b ++ size → signed_decimal z ≡ text
whole_of_parts z b n size text sign is e parts =
    signed_parts z ∙ ap (λ (s : Bool). sign_of s ++ decimal (unsigned_abs z)) sign ∙ ap (λ m. sign_of b ++ decimal m) is ∙ ap (λ t. sign_of b ++ t) e ∙ sym parts

pub price_of_parts : (z : ℤ) (b : Bool) (n : ℕ) (size text : List ℕ) → int_lt z (pos 0) ≡ b → unsigned_abs z ≡ n → hundredths_text n ≡ size → text ≡ sign_of b ++ size → printed_cents z ≡ text
price_of_parts z b n size text sign is e parts =
    append_assoc (sign_of (int_lt z (pos 0))) (decimal (unsigned_abs z / 100)) _ ∙ ap (λ (s : Bool). sign_of s ++ hundredths_text (unsigned_abs z))
    sign ∙ ap (λ m. sign_of b ++ hundredths_text m) is ∙ ap (λ t. sign_of b ++ t) e ∙ sym parts

-- where two texts are the same and their ends have the same number of bytes, both of their parts are the same
pub same_ends : (xs ys us vs : List ℕ) → length us ≡ length vs → xs ++ us ≡ ys ++ vs → (xs ≡ ys) × (us ≡ vs)
same_ends xs ys us vs le e =
    let all = ap length e in
    let long : length xs ≡ length ys = omega (arith, le, all, length-append xs us, length-append ys vs) in (
      sym (take-append_seam xs us) ∙ ap (λ t. take (length xs) t) e ∙ ap (λ n. take n (ys ++ vs)) long ∙ take-append_seam ys vs,
      sym (drop-append_seam xs us) ∙ ap (λ t. drop (length xs) t) e ∙ ap (λ n. drop n (ys ++ vs)) long ∙ drop-append_seam ys vs,
    )

-- a number of hundredths with these digits
pub hundredths_parts : (n : ℕ) (whole text : List ℕ) (tenths ones : ℕ) → hundredths_text n ≡ text → text ≡ whole ++ 46 ∷ tenths ∷ ones ∷ []
    → (decimal (n / 100) ≡ whole) × (48 + n % 100 / 10 ≡ tenths) × (48 + n % 10 ≡ ones)
hundredths_parts n whole text tenths ones e parts =
    let p = same_ends (decimal (n / 100)) whole (46 ∷ (48 + n % 100 / 10) ∷ (48 + n % 10) ∷ []) (46 ∷ tenths ∷ ones ∷ []) refl (e ∙ parts) in
    (p.0, cc p.1, cc p.1)

-- no number has a minus and no size
pub no_minus_zero : (z : ℤ) → int_lt z (pos 0) ≡ true → unsigned_abs z ≡ 0 → ⊥
no_minus_zero (pos n) sign none = both_ways (int_lt (pos n) (pos 0)) (not_below n) sign
no_minus_zero (negsuc n) sign none = omega (arith, none)

-- a small number of 64 bits is what its bits say
pub passed_on : (z : ℤ) → unsigned_abs z < 2 ^ 32 → to_z w64 (of_z w64 z) ≡ z
passed_on (pos n) small = omega (arith, ints)
passed_on (negsuc n) small = omega (arith, ints)

-- hundredths that are printed alike are the same
pub same_hundredths : (m n : ℕ) → m < 2 ^ 64 → n < 2 ^ 64 → hundredths_text m ≡ hundredths_text n → m ≡ n
same_hundredths m n lm ln e = sym (digits_in_hundredths m lm) ∙ ap digits_in e ∙ digits_in_hundredths n ln

-- a number between two of one size is of no greater size
pub size_at_most : (z : ℤ) (most : ℕ) → neg_ℤ (pos most) ≤ℤ z → z ≤ℤ pos most → unsigned_abs z ≤ most
size_at_most (pos n) most low high = omega (arith, ints, low, high)
size_at_most (negsuc n) most low high = omega (arith, ints, low, high)
