-- Pieces of a list that is made of the numbers of a range, one after the other.
use Rattle.std.proofs.Common.{◌≡◌, ◌≢◌, ◌∙◌, ◌+◌, ◌*◌, ◌<◌, ◌≤◌, ◌==◌, ◌++◌, ◌∷◌, ◌⊎◌, ℕ, zero, suc, Bool, true, false, List, [], add-one, drop, filter, length, length-append, take, refl, sym, ap, arith, append-nil, inl, inr}
use Rattle.std.specs.List.{All, flat_map, range_with_len}
use Rattle.std.proofs.Math.Nat.{mul-le-mul_right, suc-mul, zero-mul}
use Rattle.std.proofs.Math.Seq.{drop-append-add, take-add, take-append_seam}
use Rattle.std.proofs.lemmas.Bool.Decides.{eqb_tells}
use Rattle.std.proofs.lemmas.Grind.{flat_map-append}
use Rattle.std.proofs.lemmas.List.Elements.{All-head, All-tail, filter-append}
use Rattle.mari_blocks.specs.Cutting.{piece}
use Rattle.mari_blocks.proofs.Ranges.{all-flat, flat-more}

-- one piece more
pub piece-more : {X : Type 0} (from count : ℕ) (xs : List X) → take from xs ++ piece from count xs ≡ take (from + count) xs
piece-more from count xs = sym (take-add from count xs)

-- what is made of one item more
pub printed-more : {X Y : Type 0} (f : X → List Y) (xs : List X) (x : X) → flat_map f (xs ++ x ∷ []) ≡ flat_map f xs ++ f x
printed-more f xs x = flat_map-append f xs (x ∷ []) ∙ ap (λ ys. flat_map f xs ++ ys) (append-nil (f x))

-- what all pass is kept whole, and of what none passes nothing is
pub all-kept : {X : Type 0} (test : X → Bool) (xs : List X) → All (λ x. test x ≡ true) xs → filter test xs ≡ xs
all-kept test [] all = refl
all-kept test (x ∷ xs) all = rw (All-head (λ x. test x ≡ true) x xs all) (ap (λ ys. x ∷ ys) (all-kept test xs (All-tail (λ x. test x ≡ true) x xs all)))

pub none-kept : {X : Type 0} (test : X → Bool) (xs : List X) → All (λ x. test x ≡ false) xs → filter test xs ≡ []
none-kept test [] all = refl
none-kept test (x ∷ xs) all = rw (All-head (λ x. test x ≡ false) x xs all) (none-kept test xs (All-tail (λ x. test x ≡ false) x xs all))

-- what is kept of all pieces is what is kept of each
pub filter-flat : {X Y : Type 0} (test : Y → Bool) (f : X → List Y) (xs : List X) → filter test (flat_map f xs) ≡ flat_map (λ x. filter test (f x)) xs
filter-flat test f [] = refl
filter-flat test f (x ∷ xs) = filter-append test (f x) (flat_map f xs) ∙ ap (λ ys. filter test (f x) ++ ys) (filter-flat test f xs)

module _ {X : Type 0} (f : ℕ → List X) where
  -- the piece of one number stands after those of the numbers before it
  pub own-piece : (a n k j : ℕ) → a + k ≡ j → k < n → piece (length (flat_map f (range_with_len a k))) (length (f j)) (flat_map f (range_with_len a n)) ≡ f j
  own-piece a zero k j e l = absurd (omega (arith, l))
  own-piece a (suc n) zero j e l = let same : j ≡ a = omega (arith, e) in rw same (take-append_seam (f a) (flat_map f (range_with_len (a + 1) n)))
  own-piece a (suc n) (suc k) j e l =
      let before = flat_map f (range_with_len (a + 1) k) in
      let rest = flat_map f (range_with_len (a + 1) n) in
      ap (λ count. take (length (f j)) (drop count (f a ++ rest))) (length-append (f a) before)
      ∙ ap (take (length (f j))) (drop-append-add (f a) rest (length before))
      ∙ own-piece (a + 1) n k j (omega (arith, e)) (omega (arith, l))

  -- and it ends within the whole
  pub own-within : (a n k j : ℕ) → a + k ≡ j → k < n → length (flat_map f (range_with_len a k)) + length (f j) ≤ length (flat_map f (range_with_len a n))
  own-within a zero k j e l = absurd (omega (arith, l))
  own-within a (suc n) zero j e l = let same : j ≡ a = omega (arith, e) in rw (same, length-append (f a) (flat_map f (range_with_len (a + 1) n))) (omega arith)
  own-within a (suc n) (suc k) j e l =
      let before = flat_map f (range_with_len (a + 1) k) in
      let rest = flat_map f (range_with_len (a + 1) n) in
      let more = own-within (a + 1) n k j (omega (arith, e)) (omega (arith, l)) in
      rw (length-append (f a) before, length-append (f a) rest) (omega (arith, more))

  -- the length of the pieces up to and with it
  pub length-more : (a k j : ℕ) → a + k ≡ j → length (flat_map f (range_with_len a (k + 1))) ≡ length (flat_map f (range_with_len a k)) + length (f j)
  length-more a k j e = ap length (flat-more f a k j e) ∙ length-append (flat_map f (range_with_len a k)) (f j)

  -- where each item bears the number that it is made of, those that bear a number are that number's piece
  pub own-items : (key : X → ℕ) (a n : ℕ) → ((j : ℕ) → a ≤ j → j < a + n → All (λ x. key x ≡ j) (f j)) → (j : ℕ) → a ≤ j → j < a + n → filter (λ x. key x == j) (flat_map f (range_with_len a n)) ≡ f j
  own-items key a zero each j low high = absurd (omega (arith, low, high))
  own-items key a (suc n) each j low high = by (eqb_tells a j) (λ from. own-items key (a + 1) n (λ i low high. each i (omega (arith, low)) (omega (arith, high))) j from (omega (arith, high)))
    where
      test : ℕ → X → Bool
      test i x = key x == i

      rest : List X
      rest = flat_map f (range_with_len (a + 1) n)

      split : filter (test j) (f a ++ rest) ≡ filter (test j) (f a) ++ filter (test j) rest
      split = filter-append (test j) (f a) rest

      other : (i : ℕ) → i ≢ j → (x : X) → key x ≡ i → test j x ≡ false
      other i apart x e = elim (eqb_tells (key x) j) [ inl same ↦ absurd (apart (sym e ∙ same.1)) | inr differ ↦ differ.0 ]

      own : (x : X) → key x ≡ j → test j x ≡ true
      own x e = elim (eqb_tells (key x) j) [ inl same ↦ same.0 | inr differ ↦ absurd (differ.1 e) ]

      others : (i : ℕ) → i ≢ j → All (λ x. key x ≡ i) (f i) → All (λ x. test j x ≡ false) (f i)
      others i apart all = λ k d l. other i apart _ (all k d l)

      by : ((a == j) ≡ true) × (a ≡ j) ⊎ ((a == j) ≡ false) × (a ≢ j) → (a + 1 ≤ j → filter (test j) rest ≡ f j) → filter (test j) (f a ++ rest) ≡ f j
      by (inl here) later =
          let mine : All (λ x. test j x ≡ true) (f a) = λ k d l. own _ (each a (omega arith) (omega arith) k d l ∙ here.1) in
          let none = all-flat (λ x. test j x ≡ false) f (a + 1) n (λ i from to. others i (omega (arith, from, here.1)) (each i (omega (arith, from)) (omega (arith, to)))) in
          split ∙ ap (λ ys. ys ++ filter (test j) rest) (all-kept (test j) (f a) mine) ∙ ap (λ ys. f a ++ ys) (none-kept (test j) rest none) ∙ append-nil (f a) ∙ ap f here.1
      by (inr there) later =
          split ∙ ap (λ ys. ys ++ filter (test j) rest) (none-kept (test j) (f a) (others a there.1 (each a (omega arith) (omega arith))))
          ∙ later (omega (arith, low, there.1))

-- `n` lists of `size` items each
pub length-each : {X : Type 0} (f : ℕ → List X) (size a n : ℕ) → ((j : ℕ) → length (f j) ≡ size) → length (flat_map f (range_with_len a n)) ≡ n * size
length-each f size a zero each = sym (zero-mul size)
length-each f size a (suc n) each = length-append (f a) (flat_map f (range_with_len (a + 1) n)) ∙ rw (each a, length-each f size (a + 1) n each) (let more = suc-mul n size in omega (arith, more))

-- one time more
pub one-more-times : (k size : ℕ) → (k + 1) * size ≡ k * size + size
one-more-times k size = ap (λ m. m * size) (add-one k) ∙ suc-mul k size

-- piece k of `size` items ends within `n` such pieces
pub end-within : (k n size : ℕ) → k < n → k * size + size ≤ n * size
end-within k n size l =
    let above : k + 1 ≤ n = omega (arith, l) in
    let most = mul-le-mul_right {m = k + 1} {n = n} size above in
    omega (arith, most, one-more-times k size)
