-- The names of bids and providers are names, and those of bids differ.
use Rattle.std.proofs.Common.{◌≡◌, ◌≤◌, ◌<◌, ◌+◌, ◌/◌, ◌%◌, ◌∙◌, ◌==◌, ℕ, true, false, List, [], ◌∷◌, ◌++◌, codes, decimal, length, refl, sym, ap, append_assoc, arith, true≢false}
use Rattle.std.specs.Prelude.{nat_le}
use Rattle.std.specs.Char.{is_ascii_digit}
use Rattle.std.specs.List.{list_all}
use Rattle.std.specs.Str.{bytes_eq}
use Rattle.std.proofs.lemmas.Bool.Decides.{nat_tests}
use Rattle.std.proofs.lemmas.Bool.{false_from_ne_true, and_parts}
use Rattle.std.proofs.lemmas.Fmt.{decimal_injective, decimal_nonempty, digits_decimal, length-decimal-le}
use Rattle.std.proofs.lemmas.List.{length-append}
use Rattle.std.proofs.lemmas.List.Folds.{list_all-append}
use Rattle.std.proofs.lemmas.Slice.Eq.{bytes_eq-Decides}
use Rattle.mari_units.specs.Names.{is_name, is_name_byte}
use Rattle.mari_units.proofs.Digits.{AreDigits, own, digit_name}
use Rattle.mari_rows.proofs.PrintedLemmas.{is_plain_field, name-plain}
use Rattle.mari_scenario.specs.Pages.{bid, group, provider}

-- 1 to 16 bytes of names
abbrev AreNameBytes : List ℕ → Type 0
AreNameBytes text = list_all is_name_byte text ≡ true

named : (text : List ℕ) → 1 ≤ length text → length text ≤ 16 → AreNameBytes text → is_name text ≡ true
named text some few all =
    let a : nat_le 1 (length text) ≡ true = grind (arith, nat_tests) in
    let b : nat_le (length text) 16 ≡ true = grind (arith, nat_tests) in
    rw (a, b, all) refl

digits-name : (ds : List ℕ) → AreDigits ds → AreNameBytes ds
digits-name [] e = refl
digits-name (d ∷ ds) e = let p = and_parts (is_ascii_digit d) (list_all is_ascii_digit ds) e in rw (digit_name d p.0) (digits-name ds p.1)

decimal-name : (n : ℕ) → n < 100 → AreNameBytes (decimal n)
decimal-name n small = digits-name (decimal n) (digits_decimal own n (omega arith))

name-joined : (xs ys : List ℕ) → AreNameBytes xs → AreNameBytes ys → AreNameBytes (xs ++ ys)
name-joined xs ys x y = list_all-append is_name_byte xs ys ∙ rw (x, y) refl

short : (n : ℕ) → n < 100 → length (decimal n) ≤ 2
short n small = length-decimal-le 2 n (omega arith) (omega arith) (omega arith)

some : (n : ℕ) → n < 100 → 0 < length (decimal n)
some n small = decimal_nonempty n (omega arith)

pub provider-name : (n : ℕ) → n < 100 → is_name (provider n) ≡ true
provider-name n small =
    named (provider n) (omega (arith, length-append (codes "P") (decimal n), some n small)) (omega (arith, length-append (codes "P") (decimal n), short n small))
    (name-joined (codes "P") (decimal n) refl (decimal-name n small))

pub group-name : (n : ℕ) → n < 100 → is_name (group n) ≡ true
group-name n small =
    named (group n) (omega (arith, length-append (codes "g") (decimal n), some n small)) (omega (arith, length-append (codes "g") (decimal n), short n small))
    (name-joined (codes "g") (decimal n) refl (decimal-name n small))

pub length-bid : (t j : ℕ) → length (bid t j) ≡ 2 + length (decimal t) + length (decimal j)
length-bid t j = omega (arith, length-append (codes "q" ++ decimal t ++ codes "b") (decimal j), length-append (codes "q" ++ decimal t) (codes "b"), length-append (codes "q") (decimal t))

pub bid-name : (t j : ℕ) → t < 100 → j < 100 → is_name (bid t j) ≡ true
bid-name t j a b =
    named (bid t j) (omega (arith, length-bid t j)) (omega (arith, length-bid t j, short t a, short j b))
    (name-joined (codes "q" ++ decimal t ++ codes "b") (decimal j)
    (name-joined (codes "q" ++ decimal t) (codes "b") (name-joined (codes "q") (decimal t) refl (decimal-name t a)) refl) (decimal-name j b))

-- they stand in a page without quotes
pub provider-plain : (n : ℕ) → n < 100 → is_plain_field (provider n) ≡ true
provider-plain n small = name-plain (provider n) (provider-name n small)

pub group-plain : (n : ℕ) → n < 100 → is_plain_field (group n) ≡ true
group-plain n small = name-plain (group n) (group-name n small)

pub bid-plain : (t j : ℕ) → t < 100 → j < 100 → is_plain_field (bid t j) ≡ true
bid-plain t j a b = name-plain (bid t j) (bid-name t j a b)

-- digits before a `b` are reported by the text
no-b : (d : ℕ) → is_ascii_digit d ≡ true → 98 ≡ d → ⊥
no-b d e same = let no : (d == 98) ≡ false = grind (arith, nat_tests) in true≢false (sym (rw (sym same) refl) ∙ no)

before-b : (xs us ys vs : List ℕ) → AreDigits xs → AreDigits us → xs ++ 98 ∷ ys ≡ us ++ 98 ∷ vs → (xs ≡ us) × (ys ≡ vs)
before-b [] [] ys vs x u e = (refl, cc e)
before-b [] (u ∷ us) ys vs x d e = absurd (no-b u (and_parts (is_ascii_digit u) (list_all is_ascii_digit us) d).0 (cc e))
before-b (x ∷ xs) [] ys vs d u e = absurd (no-b x (and_parts (is_ascii_digit x) (list_all is_ascii_digit xs) d).0 (cc e))
before-b (x ∷ xs) (u ∷ us) ys vs d c e =
    let first : x ≡ u = cc e in
    let rest : xs ++ 98 ∷ ys ≡ us ++ 98 ∷ vs = cc e in
    let more = before-b xs us ys vs (and_parts (is_ascii_digit x) (list_all is_ascii_digit xs) d).1 (and_parts (is_ascii_digit u) (list_all is_ascii_digit us) c).1 rest in
    ((λ i. first i ∷ more.0 i), more.1)

bid-parts : (t j : ℕ) → bid t j ≡ 113 ∷ (decimal t ++ 98 ∷ decimal j)
bid-parts t j = ap (λ l. 113 ∷ l) (append_assoc (decimal t) (98 ∷ []) (decimal j))

pub bid-states : (t j u k : ℕ) → t < 100 → j < 100 → u < 100 → k < 100 → bid t j ≡ bid u k → (t ≡ u) × (j ≡ k)
bid-states t j u k a b c d e =
    let parts : 113 ∷ (decimal t ++ 98 ∷ decimal j) ≡ 113 ∷ (decimal u ++ 98 ∷ decimal k) = sym (bid-parts t j) ∙ e ∙ bid-parts u k in
    let rest : decimal t ++ 98 ∷ decimal j ≡ decimal u ++ 98 ∷ decimal k = cc parts in
    let same = before-b (decimal t) (decimal u) (decimal j) (decimal k) (digits_decimal own t (omega arith)) (digits_decimal own u (omega arith)) rest in
    (decimal_injective t u (omega arith) (omega arith) same.0, decimal_injective j k (omega arith) (omega arith) same.1)

-- the name of bid number i + 1
abbrev pub bid_id : ℕ → List ℕ
bid_id i = bid (i / 40 + 1) (i % 40 + 1)

pub ids-differ : (i n : ℕ) → n < i → i < 960 → bytes_eq (bid_id i) (bid_id n) ≡ false
ids-differ i n before few = false_from_ne_true (bytes_eq (bid_id i) (bid_id n)) (λ t. apart ((bytes_eq-Decides (bid_id i) (bid_id n)).0 t))
  where
    apart : bid_id i ≡ bid_id n → ⊥
    apart e =
        let same = bid-states (i / 40 + 1) (i % 40 + 1) (n / 40 + 1) (n % 40 + 1) (omega arith) (omega arith) (omega arith) (omega arith) e in
        let quarter : i / 40 + 1 ≡ n / 40 + 1 = same.0 in
        let place : i % 40 + 1 ≡ n % 40 + 1 = same.1 in
        omega (arith, quarter, place)
