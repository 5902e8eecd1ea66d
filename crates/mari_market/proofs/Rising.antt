-- Lists in order of a price: after a sort, cut at a price, and with one item more; and what tests of prices say.
use Rattle.std.proofs.Common.{◌≡◌, if◌then◌else◌, true, false, ℕ, zero, suc, ◌-◌, ◌<◌, ◌≤◌, ℤ, ◌≤ℤ◌, ◌<ℤ◌, List, [], ◌∷◌, ◌++◌, length, take, get_or, get_or-take, arith, ap, refl, ◌∙◌, inl, inr}
use Rattle.std.proofs.lemmas.Cmp.{int_cmp_total}
use Rattle.std.proofs.lemmas.Int.{ints}
use Rattle.std.proofs.lemmas.Bool.{cases_lt}
use Rattle.std.proofs.lemmas.List.{length-append, length-take-le, get_or_append_left, get_or_default, get_or_push}
use Rattle.std.proofs.lemmas.List.MinMax.{ranks_by}
use Rattle.std.proofs.lemmas.List.Sorted.{sorted_far}
use Rattle.std.specs.List.{All}
use Rattle.std.specs.List.Sorted.{IsPartitionedBy, IsSortedByKey}
use Rattle.std.specs.Ordering.{int_cmp, is_lt}
use lib.Signed.{lt_z}
use Rattle.mari_market.specs.Rising.{last_below, RisesBy}

pub is_less : (a b : ℤ) → a <ℤ b → lt_z a b ≡ true
is_less a b h = grind (arith, ints)

pub less : (a b : ℤ) → lt_z a b ≡ true → a <ℤ b
less a b h = grind (arith, ints)

pub not_less : (a b : ℤ) → lt_z a b ≡ false → b ≤ℤ a
not_less a b h = grind (arith, ints)

pub if_less : (a b x y : ℤ) → a <ℤ b → (if lt_z a b then x else y) ≡ x
if_less a b x y h = grind (arith, ints)

pub if_not_less : (a b x y : ℤ) → b ≤ℤ a → (if lt_z a b then x else y) ≡ y
if_not_less a b x y h = grind (arith, ints)

not_below : (a b : ℤ) → is_lt (int_cmp b a) ≡ false → a ≤ℤ b
not_below a b h = grind (arith, ints)

-- a sort by the price leaves no item dearer than a later one
pub rises : {X : Type 0} (price : X → ℤ) (xs : List X) → IsSortedByKey price int_cmp xs → RisesBy price xs
rises price xs up i j d le l =
    not_below (price (get_or xs i d)) (price (get_or xs j d)) (sorted_far (λ x y. is_lt (int_cmp (price x) (price y))) (ranks_by int_cmp_total price) xs up i j d le l)

-- the items that cost less than a price are the first
pub parts_below : {X : Type 0} (price : X → ℤ) (xs : List X) (p : ℤ) → RisesBy price xs → IsPartitionedBy (λ x. lt_z (price x) p) xs
parts_below price xs p up i j d le l h = is_less (price (get_or xs i d)) p (omega (arith, ints, up i j d le l, less (price (get_or xs j d)) p h))

-- no item is dearer than those before it
pub rises_to : {X : Type 0} (price : X → ℤ) (xs : List X) (i : ℕ) (e : X) → RisesBy price xs → i < length xs → All (λ x. price x ≤ℤ price (get_or xs i e)) (take i xs)
rises_to price xs i e up l k d m =
    let before : k < i = omega (arith, m, length-take-le i xs (omega (arith, l))) in
    omega (arith, ints, up k i e (omega (arith, before)) l, ap price (get_or-take i xs k d before), ap price (get_or_default xs k d e (omega (arith, before, l))))

-- one item more at the end, no cheaper than the others
pub rises_on : {X : Type 0} (price : X → ℤ) (xs : List X) (x : X) → RisesBy price xs → All (λ y. price y ≤ℤ price x) xs → RisesBy price (xs ++ x ∷ [])
rises_on price xs x up all i j d le l = elim (cases_lt j (length xs)) [
  | inl b ↦ omega (arith, ints, up i j d le b, ap price (get_or_append_left xs (x ∷ []) d i (omega (arith, le, b))), ap price (get_or_append_left xs (x ∷ []) d j b))
  | inr b ↦
      let last : price (get_or (xs ++ x ∷ []) j d) ≡ price x = ap price (get_or_push xs x d j (omega (arith, b, l, length-append xs (x ∷ [])))) in
      elim (cases_lt i (length xs)) [
        | inl a ↦ omega (arith, ints, last, all i d a, ap price (get_or_append_left xs (x ∷ []) d i a))
        | inr a ↦ omega (arith, ints, last, ap price (get_or_push xs x d i (omega (arith, a, le, l, length-append xs (x ∷ [])))))
      ]
]

-- the value of the last item below a price, with one item more at the end
pub last_below_push : {X : Type 0} (price value : X → ℤ) (p before : ℤ) (xs : List X) (x : X)
    → last_below price value p before (xs ++ x ∷ []) ≡ (if lt_z (price x) p then value x else last_below price value p before xs)
last_below_push price value p before [] x = refl
last_below_push price value p before (y ∷ ys) x = last_below_push price value p (if lt_z (price y) p then value y else before) ys x

-- the value of the last of the first n items, or `before` if that is none
abbrev pub last_of : {X : Type 0} → (X → ℤ) → ℕ → ℤ → List X → X → ℤ
last_of value zero before xs d = before
last_of value (suc n) before xs d = value (get_or xs n d)

pub last_some : {X : Type 0} (value : X → ℤ) (n : ℕ) (before : ℤ) (xs : List X) (d : X) → 1 ≤ n → last_of value n before xs d ≡ value (get_or xs (n - 1) d)
last_some value n before xs d l = grind arith

-- where the first n items are those that cost less, it is that of the last of these
pub last_below_first : {X : Type 0} (price value : X → ℤ) (n : ℕ) (p before : ℤ) (xs : List X) (d : X) → n ≤ length xs
    → ((k : ℕ) (e : X) → k < n → price (get_or xs k e) <ℤ p)
    → ((k : ℕ) (e : X) → n ≤ k → k < length xs → p ≤ℤ price (get_or xs k e))
    → last_below price value p before xs ≡ last_of value n before xs d
last_below_first price value zero p before (x ∷ xs) d l below rest =
    ap (λ (v : ℤ). last_below price value p v xs) (if_not_less (price x) p (value x) before (rest 0 d (omega arith) (omega arith)))
    ∙ last_below_first price value zero p before xs d (omega arith) (λ k e m. absurd (omega arith)) (λ k e m h. rest (suc k) e (omega arith) (omega arith))
last_below_first price value (suc zero) p before (x ∷ xs) d l below rest =
    ap (λ (v : ℤ). last_below price value p v xs) (if_less (price x) p (value x) before (below 0 d (omega arith)))
    ∙ last_below_first price value zero p (value x) xs d (omega arith) (λ k e m. absurd (omega arith)) (λ k e m h. rest (suc k) e (omega arith) (omega arith))
last_below_first price value (suc (suc n)) p before (x ∷ xs) d l below rest =
    ap (λ (v : ℤ). last_below price value p v xs) (if_less (price x) p (value x) before (below 0 d (omega arith)))
    ∙ last_below_first price value (suc n) p (value x) xs d (omega arith) (λ k e m. below (suc k) e (omega arith)) (λ k e m h. rest (suc k) e (omega arith) (omega arith))
last_below_first price value _ p before _ d l below rest = grind arith
