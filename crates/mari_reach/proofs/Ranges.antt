-- Tests and greatest numbers, item by item.
use Rattle.std.proofs.Common.{◌≡◌, ◌==◌, ◌&&◌, ◌||◌, not, Bool, true, false, ℕ, zero, suc, ◌+◌, ◌<◌, ◌≤◌, ℤ, pos, ◌≤ℤ◌, List, [], ◌∷◌, length, map, take, get_or, arith, refl, sym, ap, ◌∙◌, subst, inl, inr, zero-add}
use Rattle.std.proofs.lemmas.Bool.{cases_lt}
use Rattle.std.proofs.lemmas.Bool.Decides.{nat_tests}
use Rattle.std.proofs.lemmas.Int.{ints, clamps}
use Rattle.std.specs.Int.{int_max, int_min}
use Rattle.std.proofs.lemmas.List.{get_or-replicate, get_or_past}
use Rattle.std.proofs.Math.ListN.{replicate, length-replicate}
use Rattle.std.proofs.lemmas.List.FromFn.{get_or-range_with_len, length-range_with_len}
use Rattle.std.proofs.lemmas.List.Folds.{list_any-append, list_any_at, list_any_none}
use Rattle.std.specs.List.{fold, list_any, range_with_len}
use Rattle.mari_units.proofs.Lists.{range_more}
use Rattle.mari_market.specs.Sums.{int_at}
use Rattle.mari_market.proofs.Lists.{by_test}

-- no number below n passes a test
pub none_in_range : (test : ℕ → Bool) (n : ℕ) → ((h : ℕ) → h < n → test h ≡ false) → list_any test (range_with_len 0 n) ≡ false
none_in_range test n k = list_any_none test (range_with_len 0 n) (λ i d l.
    let small : i < n = omega (arith, l, length-range_with_len 0 n) in
    ap test (get_or-range_with_len 0 n i d small ∙ zero-add i) ∙ k i small)

-- or one does
pub one_in_range : (test : ℕ → Bool) (n h : ℕ) → h < n → test h ≡ true → list_any test (range_with_len 0 n) ≡ true
one_in_range test n h l e = list_any_at test (range_with_len 0 n) h 0 (omega (arith, l, length-range_with_len 0 n)) (ap test (get_or-range_with_len 0 n h 0 l ∙ zero-add h) ∙ e)

-- one number more that is tested
pub any_more : (test : ℕ → Bool) (n : ℕ) → list_any test (range_with_len 0 (n + 1)) ≡ (list_any test (range_with_len 0 n) || test n)
any_more test n =
    let e : n + 1 ≡ suc n = omega arith in
    ap (λ (k : ℕ). list_any test (range_with_len 0 k)) e ∙ ap (list_any test) (range_more 0 n n (zero-add n)) ∙ list_any-append test (range_with_len 0 n) (n ∷ [])
    ∙ ap (λ (b : Bool). list_any test (range_with_len 0 n) || b) (or_none (test n))
  where
    or_none : (b : Bool) → (b || false) ≡ b
    or_none true = refl
    or_none false = refl

pub or_assoc : (a b c : Bool) → ((a || b) || c) ≡ (a || (b || c))
or_assoc true b c = refl
or_assoc false b c = refl

-- one item more in a fold over what is made of items
pub fold_map_more : {X : Type 0} (f : ℤ → ℤ → ℤ) (h : X → ℤ) (a : ℤ) (xs : List X) (i : ℕ) (d : X) → i < length xs
    → fold f a (map h (take (i + 1) xs)) ≡ f (fold f a (map h (take i xs))) (h (get_or xs i d))
fold_map_more f h a [] i d l = absurd (omega arith)
fold_map_more f h a (x ∷ xs) zero d l = refl
fold_map_more f h a (x ∷ xs) (suc i) d l =
    let e : suc i + 1 ≡ suc (i + 1) = omega arith in
    ap (λ (n : ℕ). fold f a (map h (take n (x ∷ xs)))) e ∙ fold_map_more f h (f a (h x)) xs i d (omega arith)

-- the same of a fold that is kept as a number
pub fold_step : {X : Type 0} (f : ℤ → ℤ → ℤ) (h : X → ℤ) (a : ℤ) (xs : List X) (i : ℕ) (d : X) (old new : ℤ) → i < length xs → old ≡ fold f a (map h (take i xs)) → new ≡ f old (h (get_or xs i d))
    → new ≡ fold f a (map h (take (i + 1) xs))
fold_step f h a xs i d old new l e k = k ∙ ap (λ (x : ℤ). f x (h (get_or xs i d))) e ∙ sym (fold_map_more f h a xs i d l)

-- a greatest number from a number on, and a least one up to a number
pub max_from : {X : Type 0} (f : X → ℤ) (a low : ℤ) (xs : List X) → low ≤ℤ a → low ≤ℤ fold int_max a (map f xs)
max_from f a low [] l = l
max_from f a low (x ∷ xs) l = max_from f (int_max a (f x)) low xs (omega (arith, ints, clamps))

pub min_to : {X : Type 0} (f : X → ℤ) (a high : ℤ) (xs : List X) → a ≤ℤ high → fold int_min a (map f xs) ≤ℤ high
min_to f a high [] l = l
min_to f a high (x ∷ xs) l = min_to f (int_min a (f x)) high xs (omega (arith, ints, clamps))

-- a table of one number
pub all_one : (n z : ℕ) (x : ℤ) → z < n → int_at (replicate n x) z ≡ x
all_one n z x l = get_or-replicate n z x _ l

pub all_zero : (n z : ℕ) → int_at (replicate n (pos 0)) z ≡ pos 0
all_zero n z = elim (cases_lt z n) [
  | inl l ↦ all_one n z (pos 0) l
  | inr l ↦ get_or_past (replicate n (pos 0)) z (pos 0) (omega (arith, length-replicate n (pos 0)))
]

pub all_from : (n z : ℕ) (x low : ℤ) → low ≤ℤ x → low ≤ℤ pos 0 → low ≤ℤ int_at (replicate n x) z
all_from n z x low h k = elim (cases_lt z n) [
  | inl l ↦ subst (λ (v : ℤ). low ≤ℤ v) (sym (all_one n z x l)) h
  | inr l ↦ subst (λ (v : ℤ). low ≤ℤ v) (sym (get_or_past (replicate n x) z (pos 0) (omega (arith, length-replicate n x)))) k
]

pub all_to : (n z : ℕ) (x high : ℤ) → x ≤ℤ high → pos 0 ≤ℤ high → int_at (replicate n x) z ≤ℤ high
all_to n z x high h k = elim (cases_lt z n) [
  | inl l ↦ subst (λ (v : ℤ). v ≤ℤ high) (sym (all_one n z x l)) h
  | inr l ↦ subst (λ (v : ℤ). v ≤ℤ high) (sym (get_or_past (replicate n x) z (pos 0) (omega (arith, length-replicate n x)))) k
]

-- a table that is marked gate by gate
pub marked_more : (i : ℕ) (test : ℕ → Bool) (was old new : ℕ → Bool) → ((g : ℕ) → g < i → old g ≡ (was g || test g)) → ((g : ℕ) → i ≤ g → old g ≡ was g)
    → new i ≡ (old i || test i) → ((g : ℕ) → (g ≡ i → ⊥) → new g ≡ old g) → (g : ℕ) → g < i + 1 → new g ≡ (was g || test g)
marked_more i test was old new done left here others g l = elim (cases_lt g i) [
  | inl k ↦ others g (λ e. omega (arith, e)) ∙ done g k
  | inr k ↦ let e : g ≡ i = omega arith in ap new e ∙ here ∙ ap (λ (b : Bool). b || test i) (left i (omega arith)) ∙ ap (λ (j : ℕ). was j || test j) (sym e)
]

pub both_true : (a b : Bool) → a ≡ true → b ≡ true → (a && b) ≡ true
both_true true b e h = h
both_true false b e h = absurd (cc)

-- ---- marks that are set number by number

pub mark_here : (b was : Bool) (i : ℕ) → (was || (b && (i == i))) ≡ (was || b)
mark_here true was i = let same : (i == i) ≡ true = grind (arith, nat_tests) in ap (λ (c : Bool). was || c) same
mark_here false was i = refl

pub mark_there : (b was : Bool) (i g : ℕ) → (i ≡ g → ⊥) → (was || (b && (i == g))) ≡ was
mark_there b was i g apart = by (i == g) (by_test (i == g) (λ e. absurd (apart (grind (arith, nat_tests)))) (λ e. e)) b was
  where
    by : (same : Bool) → same ≡ false → (c d : Bool) → (d || (c && same)) ≡ d
    by true e c d = absurd (cc)
    by false e true true = refl
    by false e true false = refl
    by false e false true = refl
    by false e false false = refl

-- one number more that a loop tests and marks, and those left
pub marked_to : (i : ℕ) (answer : Bool) (test was old new : ℕ → Bool) → answer ≡ test i → ((g : ℕ) → g < i → old g ≡ (was g || test g)) → ((g : ℕ) → i ≤ g → old g ≡ was g)
    → ((g : ℕ) → new g ≡ (old g || (answer && (i == g)))) → (g : ℕ) → g < i + 1 → new g ≡ (was g || test g)
marked_to i answer test was old new e done left step g l =
    marked_more i test was old new done left (step i ∙ mark_here answer (old i) i ∙ ap (λ (b : Bool). old i || b) e) (λ h apart. step h ∙ mark_there answer (old h) i h (λ f. apart (sym f))) g l

pub marked_from : (i : ℕ) (answer : Bool) (was old new : ℕ → Bool) → ((g : ℕ) → i ≤ g → old g ≡ was g)
    → ((g : ℕ) → new g ≡ (old g || (answer && (i == g)))) → (g : ℕ) → i + 1 ≤ g → new g ≡ was g
marked_from i answer was old new left step g l = step g ∙ mark_there answer (old g) i g (λ e. omega (arith, e, l)) ∙ left g (omega (arith, l))

-- ---- tests put together

pub or_first : (a b : Bool) → a ≡ true → (a || b) ≡ true
or_first true b e = refl
or_first false b e = absurd (cc)

pub or_later : (a b : Bool) → b ≡ true → (a || b) ≡ true
or_later true b e = refl
or_later false b e = e

pub and_none : (b c : Bool) → c ≡ false → (b && c) ≡ false
and_none true c e = e
and_none false c e = refl

-- a test that is refused, and one whose opposite passes
pub refused : (b : Bool) → (b ≡ true → ⊥) → b ≡ false
refused true n = absurd (n refl)
refused false n = refl

pub opposite : (b : Bool) → not b ≡ true → b ≡ false
opposite true e = absurd (cc)
opposite false e = refl
