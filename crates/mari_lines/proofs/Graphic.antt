-- Each byte of a line's words is above the space, so a line's words are its spelling's, and it has no line feed.
use Rattle.std.proofs.Common.{◌≡◌, ◌≤◌, ◌<◌, ℕ, suc, ◌+◌, ◌*◌, ◌/◌, ◌%◌, ◌^◌, Bool, true, false, cond, not, eqb, ltb, List, [], ◌∷◌, ◌++◌, ℤ, pos, negsuc, int_lt, refl, sym, ap, ◌∙◌, arith}
use Rattle.std.specs.Char.{is_ascii_digit}
use Rattle.std.specs.Int.RustNames.{unsigned_abs}
use Rattle.std.specs.List.{list_all, slice_split, onto_first, AllByRecursion}
use Rattle.std.specs.Fmt.{decimal, signed_decimal}
use Rattle.std.proofs.lemmas.Bool.{lt-ltb, eqb-true, and_parts}
use Rattle.std.proofs.lemmas.Bool.Decides.{nat_tests}
use Rattle.std.proofs.lemmas.List.{append-nil}
use Rattle.std.proofs.lemmas.List.Folds.{list_all-append}
use Rattle.std.proofs.lemmas.Fmt.{digits_decimal}
use Rattle.mari_units.specs.Names.{is_name, is_name_byte}
use Rattle.mari_units.specs.Numbers.{sign_of, printed_cents, printed_euros, printed_ten_thousandths}
use Rattle.mari_lines.specs.Reading.{Lacks}
use Rattle.mari_lines.specs.Spelling.{spaced, kind_text}
use Rattle.mari_units.proofs.Digits.{own}
use Rattle.mari_lines.proofs.Splits.{first_split, only_split, some_words}

-- above the space
abbrev pub IsGraphic : List ℕ → Type 0
IsGraphic w = list_all (λ b. ltb 32 b) w ≡ true

pub weaken : (p q : ℕ → Bool) → ((b : ℕ) → p b ≡ true → q b ≡ true) → (xs : List ℕ) → list_all p xs ≡ true → list_all q xs ≡ true
weaken p q h [] e = refl
weaken p q h (x ∷ xs) e = let a = and_parts (p x) (list_all p xs) e in rw (h x a.0, weaken p q h xs a.1) refl

digit_graphic : (b : ℕ) → is_ascii_digit b ≡ true → ltb 32 b ≡ true
digit_graphic b e = grind (arith, nat_tests)

name_graphic : (b : ℕ) → is_name_byte b ≡ true → ltb 32 b ≡ true
name_graphic b e = grind (arith, nat_tests)

graphic_lacks : (s : ℕ) → s ≤ 32 → (b : ℕ) → ltb 32 b ≡ true → not (eqb b s) ≡ true
graphic_lacks s le b e = grind (arith, nat_tests)

pub lacks_space : (w : List ℕ) → IsGraphic w → Lacks 32 w
lacks_space w g = weaken _ _ (graphic_lacks 32 (omega arith)) w g

pub lacks_feed : (w : List ℕ) → IsGraphic w → Lacks 10 w
lacks_feed w g = weaken _ _ (graphic_lacks 10 (omega arith)) w g

both : (xs ys : List ℕ) → IsGraphic xs → IsGraphic ys → IsGraphic (xs ++ ys)
both xs ys a b = list_all-append (λ b. ltb 32 b) xs ys ∙ rw (a, b) refl

pub graphic_name : (w : List ℕ) → is_name w ≡ true → IsGraphic w
graphic_name w e = weaken is_name_byte _ name_graphic w (and_parts _ (list_all is_name_byte w) e).1

pub graphic_decimal : (n : ℕ) → n < 2 ^ 64 → IsGraphic (decimal n)
graphic_decimal n lt = weaken is_ascii_digit _ digit_graphic (decimal n) (digits_decimal own n lt)

pub graphic_signed : (z : ℤ) → unsigned_abs z < 2 ^ 64 → IsGraphic (signed_decimal z)
graphic_signed (pos n) lt = graphic_decimal n lt
graphic_signed (negsuc n) lt = graphic_decimal (suc n) lt

graphic_sign : (negative : Bool) → IsGraphic (sign_of negative)
graphic_sign true = refl
graphic_sign false = refl

graphic_digit : (x : ℕ) → ltb 32 (48 + x) ≡ true
graphic_digit x = lt-ltb 32 (48 + x) (omega arith)

pub graphic_cents : (z : ℤ) → unsigned_abs z < 2 ^ 64 → IsGraphic (printed_cents z)
graphic_cents z lt =
    let n = unsigned_abs z in
    both (sign_of (int_lt z (pos 0)) ++ decimal (n / 100)) _ (both (sign_of (int_lt z (pos 0))) (decimal (n / 100)) (graphic_sign (int_lt z (pos 0))) (graphic_decimal (n / 100) (omega arith)))
    (rw (graphic_digit (n % 100 / 10), graphic_digit (n % 10)) refl)

pub graphic_euros : (z : ℤ) → 25 * unsigned_abs z < 10 ^ 22 → IsGraphic (printed_euros z)
graphic_euros z lt =
    let n = 25 * unsigned_abs z in
    both (sign_of (int_lt z (pos 0))) (printed_ten_thousandths n) (graphic_sign (int_lt z (pos 0)))
    (both (decimal (n / 10000)) _ (graphic_decimal (n / 10000) (omega arith))
    (rw (graphic_digit (n % 10000 / 1000), graphic_digit (n % 1000 / 100), graphic_digit (n % 100 / 10), graphic_digit (n % 10)) refl))

pub graphic_kind : (direct : Bool) → IsGraphic (kind_text direct)
graphic_kind true = refl
graphic_kind false = refl

-- words that lack the space are the words of their spelling
pub split_spaced : (w : List ℕ) (ws : List (List ℕ)) → IsGraphic w → AllByRecursion IsGraphic ws → slice_split (λ b. eqb b 32) (w ++ spaced ws) ≡ w ∷ ws
split_spaced w [] g a = ap (λ (bs : List ℕ). slice_split (λ b. eqb b 32) bs) (append-nil w) ∙ only_split 32 w (lacks_space w g)
split_spaced w (v ∷ vs) g a = first_split 32 w (v ++ spaced vs) (lacks_space w g) ∙ ap (λ (us : List (List ℕ)). w ∷ us) (split_spaced v vs a.0 a.1)

abbrev pub spelled : List (List ℕ) → List ℕ
spelled [] = []
spelled (w ∷ ws) = w ++ spaced ws

-- and a text is spelled by its words
pub spelled_split : (text : List ℕ) → spelled (slice_split (λ b. eqb b 32) text) ≡ text
spelled_split [] = refl
spelled_split (x ∷ xs) = by_byte (eqb x 32) refl (slice_split (λ b. eqb b 32) xs) (some_words 32 xs) (spelled_split xs)
  where
    by_byte : (t : Bool) → eqb x 32 ≡ t → (ws : List (List ℕ)) → (ws ≡ [] → ⊥) → spelled ws ≡ xs → spelled (cond t ([] ∷ ws) (onto_first x ws)) ≡ x ∷ xs
    by_byte t et [] some e = absurd (some refl)
    by_byte true et (v ∷ vs) some e = ap (λ (bs : List ℕ). 32 ∷ bs) e ∙ ap (λ c. c ∷ xs) (sym (eqb-true x 32 et))
    by_byte false et (v ∷ vs) some e = ap (λ (bs : List ℕ). x ∷ bs) e

-- a spelling has no line feed
spaced_lacks : (ws : List (List ℕ)) → AllByRecursion IsGraphic ws → Lacks 10 (spaced ws)
spaced_lacks [] a = refl
spaced_lacks (w ∷ ws) a = list_all-append (λ b. not (eqb b 10)) (32 ∷ w) (spaced ws) ∙ rw (lacks_feed w a.0, spaced_lacks ws a.1) refl

pub spelling_lacks : (w : List ℕ) (ws : List (List ℕ)) → IsGraphic w → AllByRecursion IsGraphic ws → Lacks 10 (w ++ spaced ws)
spelling_lacks w ws g a = list_all-append (λ b. not (eqb b 10)) w (spaced ws) ∙ rw (lacks_feed w g, spaced_lacks ws a) refl
