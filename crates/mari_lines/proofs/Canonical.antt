-- How a printed number ends, and what stands before its end.
use Rattle.std.proofs.Common.{◌≡◌, ◌≢◌, ◌≤◌, ◌<◌, ◌↔◌, ◌⊎◌, inl, inr, ℕ, ◌+◌, ◌/◌, ◌%◌, ◌^◌, Bool, true, false, IsTrue, nat_eq, length, List, [], ◌∷◌, ◌++◌, Option, Some, None, MatchOption, ℤ, pos, negsuc, int_lt, refl, sym, ap, ◌∙◌, arith}
use Rattle.std.specs.Borrow.{Bor}
use Rattle.std.specs.Fmt.{decimal, signed_decimal}
use Rattle.std.specs.Int.RustNames.{unsigned_abs}
use Rattle.std.proofs.lemmas.Bool.{cases_lt}
use Rattle.std.proofs.lemmas.Bool.Decides.{nat_tests}
use Rattle.std.proofs.lemmas.Fmt.{decimal_digit, decimal_step_wide}
use Rattle.std.proofs.lemmas.List.{append_assoc, append_cancel_right}
use Rattle.mari_units.specs.Numbers.{sign_of, printed_ten_thousandths}
use Rattle.mari_lines.proofs.Printed.{not_below}

-- a number of one digit
pub one_digit : (n : ℕ) → n < 10 → decimal n ≡ (48 + n % 10) ∷ []
one_digit n small =
    let same : 48 + n ≡ 48 + n % 10 = omega arith in
    decimal_digit n small ∙ ap (λ d. d ∷ []) same

-- each number ends in its last digit
pub ends_in_digit : (n d : ℕ) (text : List ℕ) → n < 10 ^ 64 → d ≡ 48 + n % 10
    → ((front : List ℕ) → text ≢ front ++ d ∷ []) → text ≢ decimal n
ends_in_digit n d text fits is none e = by (cases_lt n 10)
  where
    by : (n < 10) ⊎ (10 ≤ n) → ⊥
    by (inl small) = none [] (e ∙ one_digit n small ∙ ap (λ d. d ∷ []) (sym is))
    by (inr large) =
        none (decimal (n / 10)) (e ∙ decimal_step_wide n large fits ∙ ap (λ d. decimal (n / 10) ++ d ∷ []) (sym is))

-- nothing stands before a number's only digit
pub is_nothing : (r : Bool) (front : List ℕ) → r ≡ nat_eq (length front) 0 → IsTrue r ↔ (front ≡ [])
is_nothing r [] e = (λ yes. refl, λ same. e)
is_nothing r (x ∷ xs) e = (λ yes. absurd (never_nothing (sym e ∙ yes)), λ same. absurd cc)
  where
    never_nothing : nat_eq (length (x ∷ xs)) 0 ≡ true → ⊥
    never_nothing n = grind (arith, nat_tests)

-- what stands before the same end is the same just where the wholes are
pub before_end : (text front whole printed end : List ℕ) → text ≡ front ++ end → whole ≡ printed ++ end
    → (front ≡ printed) ↔ (text ≡ whole)
before_end text front whole printed end t w = (
  λ same. t ∙ ap (λ xs. xs ++ end) same ∙ sym w,
  λ same. append_cancel_right front printed end (sym t ∙ same ∙ w),
)

-- one equivalence after the other; and what never holds is false
pub through : {P Q R : Type 0} → P ↔ Q → Q ↔ R → P ↔ R
through a b = (λ p. b.0 (a.0 p), λ r. a.1 (b.1 r))

pub never : {P : Type 0} → (P → ⊥) → IsTrue false ↔ P
never none = (λ yes. absurd cc, λ p. absurd (none p))

-- two last bytes, taken off one after the other, or none where the last is another
pub two_off : (o : Option (Bor (List ℕ))) (text front : List ℕ) (a b d e : ℕ)
    → text ≡ front ++ e ∷ [] → d ≡ a → e ≡ b
    → MatchOption o ((f : List ℕ) → front ≢ f ++ d ∷ []) (λ f. front ≡ f.now ++ d ∷ [])
    → MatchOption o ((f : List ℕ) → text ≢ f ++ a ∷ b ∷ []) (λ f. text ≡ f.now ++ a ∷ b ∷ [])
two_off None text front a b d e t da eb none = λ f same.
    let first = ap (λ x. f ++ x ∷ b ∷ []) (sym da) in
    let second = ap (λ x. f ++ d ∷ x ∷ []) (sym eb) in
    let whole = first ∙ second ∙ sym (append_assoc f (d ∷ []) (e ∷ [])) in
    none f ((before_end text front (f ++ a ∷ b ∷ []) (f ++ d ∷ []) (e ∷ []) t whole).1 same)
two_off (Some f) text front a b d e t da eb some =
    t ∙ ap (λ xs. xs ++ e ∷ []) some ∙ append_assoc f.now (d ∷ []) (e ∷ [])
    ∙ ap (λ x. f.now ++ x ∷ e ∷ []) da ∙ ap (λ x. f.now ++ a ∷ x ∷ []) eb

pub none_off : (o : Option (Bor (List ℕ))) (text : List ℕ) (a b e : ℕ) → o ≡ None → e ≡ b
    → ((f : List ℕ) → text ≢ f ++ e ∷ [])
    → MatchOption o ((f : List ℕ) → text ≢ f ++ a ∷ b ∷ []) (λ f. text ≡ f.now ++ a ∷ b ∷ [])
none_off None text a b e is eb none = λ f same.
    none (f ++ a ∷ []) (same ∙ ap (λ x. f ++ a ∷ x ∷ []) (sym eb) ∙ sym (append_assoc f (a ∷ []) (e ∷ [])))
none_off (Some f) text a b e is eb none = absurd cc

-- a point and two decimals
pub hundredths_end : (whole : List ℕ) (a b : ℕ) → whole ++ 46 ∷ a ∷ b ∷ [] ≡ (whole ++ 46 ∷ []) ++ a ∷ b ∷ []
hundredths_end whole a b = sym (append_assoc whole (46 ∷ []) (a ∷ b ∷ []))

-- four decimals are two after two
pub ten_thousandths_end : (n : ℕ)
    → printed_ten_thousandths n
    ≡ (decimal (n / 100 / 100) ++ 46 ∷ (48 + n / 100 % 100 / 10) ∷ (48 + n / 100 % 10) ∷ [])
    ++ (48 + n % 100 / 10) ∷ (48 + n % 10) ∷ []
ten_thousandths_end n =
    let whole : n / 100 / 100 ≡ n / 10000 = omega arith in
    let first : 48 + n / 100 % 100 / 10 ≡ 48 + n % 10000 / 1000 = omega arith in
    let second : 48 + n / 100 % 10 ≡ 48 + n % 1000 / 100 = omega arith in
    sym (append_assoc (decimal (n / 100 / 100)) (46 ∷ (48 + n / 100 % 100 / 10) ∷ (48 + n / 100 % 10) ∷ []) _
    ∙ (λ i. decimal (whole i) ++ 46 ∷ first i ∷ second i ∷ (48 + n % 100 / 10) ∷ (48 + n % 10) ∷ []))

-- a whole number is its digits after its sign
pub signed_parts : (z : ℤ) → signed_decimal z ≡ sign_of (int_lt z (pos 0)) ++ decimal (unsigned_abs z)
signed_parts (pos n) = ap (λ (b : Bool). sign_of b ++ decimal n) (sym (not_below n))
signed_parts (negsuc n) = refl
