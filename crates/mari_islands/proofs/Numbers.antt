-- Items that pass a test, rising numbers, and their places.
use Rattle.std.proofs.Common.{◌≡◌, ◌==◌, ℕ, zero, suc, ◌+◌, ◌<◌, ◌≤◌, Bool, true, false, List, [], ◌∷◌, ◌++◌, length, Option, Some, filter, map, cond, get_or, nat_lt, refl, sym, ap, ◌∙◌, subst, arith, inl, inr, add-zero}
use Rattle.std.specs.Prelude.{Contains, Any, slice_index_or, unwrap_or}
use Rattle.std.specs.List.{All, AllPairs, position, position_or_len, range_with_len}
use Rattle.std.proofs.lemmas.Bool.{eqb-true, eq-eqb, lt-ltb, cases_lt, cond-false, cond-true, false≢true}
use Rattle.std.proofs.lemmas.Bool.Decides.{eqb_tells}
use Rattle.std.proofs.lemmas.List.{append-nil, get_or_default, map-append}
use Rattle.std.proofs.lemmas.List.Elements.{All-contains, All-contains_itself, All-filter, filter-append, filter_passes}
use Rattle.std.proofs.lemmas.List.FromFn.{get_or-range_with_len, length-range_with_len}
use Rattle.std.proofs.lemmas.List.Kept.{AllPairs-filter}
use Rattle.std.proofs.lemmas.List.Quantifiers.{position-Some}
use Rattle.std.proofs.lemmas.List.Sums.{position_or_len_is}
use Rattle.mari_islands.specs.Lists.{place_in, place_of}

-- ---- filters

-- an item that passes is kept
pub contains_filter : {X : Type 0} (p : X → Bool) (xs : List X) (x : X) → Contains xs x → p x ≡ true → Contains (filter p xs) x
contains_filter p [] x h t = absurd (omega (arith, h.1))
contains_filter {X} p (y ∷ ys) x h t = by (p y) h.0 h.1 h.2 refl (λ k. contains_filter p ys x k t)
  where
    by : (b : Bool) (i : ℕ) → i < suc (length ys) → slice_index_or (y ∷ ys) i x ≡ x → p y ≡ b → (Contains ys x → Contains (filter p ys) x) → Contains (cond b (y ∷ filter p ys) (filter p ys)) x
    by true zero l e same more = (0, omega arith, e)
    by false zero l e same more = absurd (false≢true (sym same ∙ ap p e ∙ t))
    by true (suc i) l e same more = let k = more (i, omega arith, e) in (suc k.0, omega (arith, k.1), k.2)
    by false (suc i) l e same more = more (i, omega arith, e)

-- what holds of each item that passes holds of those that are kept
pub each_kept : {X : Type 0} (p : X → Bool) (P : X → Type 0) (xs : List X) → ((x : X) → Contains xs x → p x ≡ true → P x) → All P (filter p xs)
each_kept p P xs h = λ k d l. h (slice_index_or (filter p xs) k d) (All-filter p (Contains xs) xs (All-contains_itself xs) k d l) (filter_passes p xs k d l)

-- what is kept is an item that passes
pub kept_contains : {X : Type 0} (p : X → Bool) (xs : List X) (x : X) → Contains (filter p xs) x → Contains xs x × (p x ≡ true)
kept_contains p xs x h = (All-contains (Contains xs) (filter p xs) x (All-filter p (Contains xs) xs (All-contains_itself xs)) h, All-contains (λ y. p y ≡ true) (filter p xs) x (filter_passes p xs) h)

-- no more are kept than there are
pub few_kept : {X : Type 0} (p : X → Bool) (xs : List X) → length (filter p xs) ≤ length xs
few_kept p [] = omega arith
few_kept p (x ∷ xs) = by (p x) (few_kept p xs)
  where
    by : (b : Bool) → length (filter p xs) ≤ length xs → length (cond b (x ∷ filter p xs) (filter p xs)) ≤ suc (length xs)
    by true h = omega arith
    by false h = omega arith

pub any_from_contains : {X : Type 0} (P : X → Type 0) (xs : List X) (x : X) → Contains xs x → P x → Any P xs
any_from_contains P xs x h p = (h.0, x, h.1, h.2, p)

-- ---- numbers of a range

pub range_contains : (n x : ℕ) → x < n → Contains (range_with_len 0 n) x
range_contains n x l = (x, omega (arith, length-range_with_len 0 n), get_or-range_with_len 0 n x x l ∙ omega arith)

pub range_below : (n : ℕ) → All (λ x. x < n) (range_with_len 0 n)
range_below n = λ k d l.
    let less : k < n = omega (arith, length-range_with_len 0 n) in
    omega (arith, get_or-range_with_len 0 n k d less)

range_more : (a n : ℕ) → range_with_len a (suc n) ≡ range_with_len a n ++ (a + n) ∷ []
range_more a zero = ap (λ (k : ℕ). k ∷ []) (sym (add-zero a))
range_more a (suc n) = ap (λ (xs : List ℕ). a ∷ xs) (range_more (a + 1) n ∙ ap (λ (k : ℕ). range_with_len (a + 1) n ++ k ∷ []) (omega arith))

-- with one more number
pub numbers_more : (p : ℕ → Bool) (n : ℕ) → filter p (range_with_len 0 (suc n)) ≡ filter p (range_with_len 0 n) ++ cond (p n) (n ∷ []) []
numbers_more p n = ap (filter p) (range_more 0 n ∙ ap (λ (k : ℕ). range_with_len 0 n ++ k ∷ []) (omega arith)) ∙ filter-append p (range_with_len 0 n) (n ∷ [])

-- the step of a loop over numbers that keeps those that pass
pub kept_more : (p : ℕ → Bool) (n : ℕ) (old new : List ℕ) → old ≡ filter p (range_with_len 0 n) → p n ≡ true → new ≡ old ++ n ∷ [] → new ≡ filter p (range_with_len 0 (n + 1))
kept_more p n old new e t h =
    let one : suc n ≡ n + 1 = omega arith in
    h ∙ ap (λ (xs : List ℕ). xs ++ n ∷ []) e ∙ ap (λ (xs : List ℕ). filter p (range_with_len 0 n) ++ xs) (sym (cond-true (p n) (n ∷ []) [] t)) ∙ sym
    (numbers_more p n) ∙ ap (λ (k : ℕ). filter p (range_with_len 0 k)) one

pub kept_same : (p : ℕ → Bool) (n : ℕ) (old : List ℕ) → old ≡ filter p (range_with_len 0 n) → p n ≡ false → old ≡ filter p (range_with_len 0 (n + 1))
kept_same p n old e t =
    let one : suc n ≡ n + 1 = omega arith in
    e ∙ sym (append-nil (filter p (range_with_len 0 n))) ∙ ap (λ (xs : List ℕ). filter p (range_with_len 0 n) ++ xs)
    (sym (cond-false (p n) (n ∷ []) [] t)) ∙ sym (numbers_more p n) ∙ ap (λ (k : ℕ). filter p (range_with_len 0 k)) one

-- each number is below all later ones
abbrev pub Rises : List ℕ → Type 0
Rises xs = AllPairs (λ i j. i < j) xs

range_rises : (n : ℕ) → Rises (range_with_len 0 n)
range_rises n = λ i j d l h.
    let less : j < n = omega (arith, length-range_with_len 0 n) in
    omega (arith, get_or-range_with_len 0 n i d (omega arith), get_or-range_with_len 0 n j d less)

pub numbers_rise : (p : ℕ → Bool) (n : ℕ) → Rises (filter p (range_with_len 0 n))
numbers_rise p n = AllPairs-filter (λ i j. i < j) p (range_with_len 0 n) (range_rises n)

pub number_there : (p : ℕ → Bool) (n x : ℕ) → x < n → p x ≡ true → Contains (filter p (range_with_len 0 n)) x
number_there p n x l t = contains_filter p (range_with_len 0 n) x (range_contains n x l) t

-- a number that passes, below n
pub record Passes (p : ℕ → Bool) (n x : ℕ) : Type 0 where
  pub below : x < n
  pub passes : p x ≡ true

pub number_passes : (p : ℕ → Bool) (n i : ℕ) → i < length (filter p (range_with_len 0 n)) → Passes p n (get_or (filter p (range_with_len 0 n)) i 0)
number_passes p n i l = record {
  below = All-filter p (λ x. x < n) (range_with_len 0 n) (range_below n) i 0 l;
  passes = filter_passes p (range_with_len 0 n) i 0 l;
}

pub few_numbers : (p : ℕ → Bool) (n : ℕ) → length (filter p (range_with_len 0 n)) ≤ n
few_numbers p n = omega (arith, few_kept p (range_with_len 0 n), length-range_with_len 0 n)

-- ---- places

-- the place of a number in a list
pub record IsPlace (xs : List ℕ) (x i : ℕ) : Type 0 where
  pub found : place_in xs x ≡ Some i
  pub there : i < length xs
  pub read : get_or xs i 0 ≡ x

pub place_read : (xs : List ℕ) (x i : ℕ) → place_in xs x ≡ Some i → IsPlace xs x i
place_read xs x i e =
    let k = position-Some (λ j. j == x) xs i 0 e in
    record { found = e; there = k.0; read = eqb-true _ _ k.1 }

differs : (a b : ℕ) → a < b → (a == b) ≡ false
differs a b l = elim (eqb_tells a b) [ inl h ↦ absurd (omega (arith, h.1)) | inr h ↦ h.0 ]

first_place : (xs : List ℕ) (x i : ℕ) → i < length xs → position_or_len (λ j. j == x) xs ≡ i → position (λ j. j == x) xs ≡ Some i
first_place xs x i l e = rw e (let here : nat_lt i (length xs) ≡ true = lt-ltb i (length xs) l in rw here refl)

-- of rising numbers, the one at a place has that place
pub place_at : (xs : List ℕ) (i : ℕ) → Rises xs → i < length xs → place_in xs (get_or xs i 0) ≡ Some i
place_at xs i rise l =
    let test : ℕ → Bool = λ j. j == get_or xs i 0 in
    first_place xs (get_or xs i 0) i l (position_or_len_is test xs i 0 (omega arith) (λ k less. differs _ _ (rise k i 0 less l)) (λ m. eq-eqb _ _ refl))

-- and each has one
pub place_there : (xs : List ℕ) (x : ℕ) → Rises xs → Contains xs x → (i : ℕ) × IsPlace xs x i
place_there xs x rise h =
    let here : get_or xs h.0 0 ≡ x = get_or_default xs h.0 0 x h.1 ∙ h.2 in
    (h.0, record { found = subst (λ (y : ℕ). place_in xs y ≡ Some h.0) here (place_at xs h.0 rise h.1); there = h.1; read = here })

-- places of numbers rise with them
pub places_rise : (xs : List ℕ) (x y i j : ℕ) → Rises xs → IsPlace xs x i → IsPlace xs y j → x < y → i < j
places_rise xs x y i j rise a b l = elim (cases_lt i j) [ inl less ↦ less | inr more ↦ absurd (not_after more) ]
  where
    not_after : j ≤ i → ⊥
    not_after m = elim (cases_lt j i) [
      | inl less ↦ omega (arith, rise j i 0 less a.there, a.read, b.read)
      | inr other ↦ (let same : i ≡ j = omega arith in let one : get_or xs i 0 ≡ get_or xs j 0 = ap (λ k. get_or xs k 0) same in omega (arith, one, a.read, b.read))
    ]

pub one_place : (xs : List ℕ) (x i j : ℕ) → IsPlace xs x i → IsPlace xs x j → i ≡ j
one_place xs x i j a b = let same : Some i ≡ Some j = sym a.found ∙ b.found in cc

pub place_of_is : (xs : List ℕ) (x i : ℕ) → IsPlace xs x i → place_of xs x ≡ i
place_of_is xs x i h = ap (λ (o : Option ℕ). unwrap_or o 0) h.found

pub few_in : (p : ℕ → Bool) (n : ℕ) (xs ys : List ℕ) → ys ≡ xs → xs ≡ filter p (range_with_len 0 n) → length ys ≤ n
few_in p n xs ys d e = omega (arith, ap length d, ap length e, few_numbers p n)

-- the same where a value is made of each number
pub mapped_more : {X : Type 0} (f : ℕ → X) (p : ℕ → Bool) (n : ℕ) (old new : List X) (x : X)
    → old ≡ map f (filter p (range_with_len 0 n)) → p n ≡ true → x ≡ f n → new ≡ old ++ x ∷ []
    → new ≡ map f (filter p (range_with_len 0 (n + 1)))
mapped_more {X} f p n old new x e t is h =
    let more : filter p (range_with_len 0 n) ++ n ∷ [] ≡ filter p (range_with_len 0 (n + 1)) = kept_more p n (filter p (range_with_len 0 n)) (filter p (range_with_len 0 n) ++ n ∷ []) refl t refl in
    h ∙ ap (λ (xs : List X). xs ++ x ∷ []) e ∙ ap (λ (y : X). map f (filter p (range_with_len 0 n)) ++ y ∷ []) is ∙ sym (map-append f (filter p (range_with_len 0 n)) (n ∷ [])) ∙ ap (map f) more

pub mapped_same : {X : Type 0} (f : ℕ → X) (p : ℕ → Bool) (n : ℕ) (old : List X) → old ≡ map f (filter p (range_with_len 0 n)) → p n ≡ false → old ≡ map f (filter p (range_with_len 0 (n + 1)))
mapped_same f p n old e t = e ∙ ap (map f) (kept_same p n (filter p (range_with_len 0 n)) refl t)
