-- One number more of a range.
use Rattle.std.proofs.Common.{◌≡◌, ◌≢◌, ◌∙◌, ◌==◌, ◌⊎◌, ◌+◌, ◌++◌, ◌∷◌, [], ◌<◌, ◌≤◌, ℕ, zero, suc, Bool, true, false, List, add-one, get_or, length, take, refl, ap, sym, inl, inr, map-id, append-nil, arith}
use Rattle.std.specs.Prelude.{◌||◌}
use Rattle.std.proofs.lemmas.Bool.Decides.{eqb_tells}
use Rattle.std.proofs.Math.Seq.{take-suc}
use Rattle.std.specs.List.{All, flat_map, list_any, range_with_len}
use Rattle.std.proofs.lemmas.Grind.{flat_map-append}
use Rattle.std.proofs.lemmas.List.Concat.{flat_map-cons}
use Rattle.std.proofs.lemmas.List.Elements.{All-append, All-nil}
use Rattle.std.proofs.lemmas.List.Folds.{list_any-append}
use Rattle.std.proofs.lemmas.List.FromFn.{map-range_with_len_more}
use Rattle.mari_links.proofs.EntryLemmas.{or-no, or-yes}

pub range-more : (a n j : ℕ) → a + n ≡ j → range_with_len a (n + 1) ≡ range_with_len a n ++ j ∷ []
range-more a n j e =
    sym (map-id (range_with_len a (n + 1))) ∙ map-range_with_len_more (λ k. k) a n j e ∙ ap (λ ks. ks ++ j ∷ []) (map-id (range_with_len a n))

-- what is made of it goes after the others
pub flat-more : {X : Type 0} (f : ℕ → List X) (a n j : ℕ) → a + n ≡ j → flat_map f (range_with_len a (n + 1)) ≡ flat_map f (range_with_len a n) ++ f j
flat-more f a n j e =
    ap (flat_map f) (range-more a n j e) ∙ flat_map-append f (range_with_len a n) (j ∷ []) ∙ ap (λ last. flat_map f (range_with_len a n) ++ last) (append-nil (f j))

-- and whether one passes
pub any-more : (test : ℕ → Bool) (a n j : ℕ) → a + n ≡ j → list_any test (range_with_len a (n + 1)) ≡ (list_any test (range_with_len a n) || test j)
any-more test a n j e =
    ap (list_any test) (range-more a n j e) ∙ list_any-append test (range_with_len a n) (j ∷ []) ∙ ap (λ b. list_any test (range_with_len a n) || b) (or-no (test j))

-- whether one passes that does
pub any-in-range : (test : ℕ → Bool) (a n k : ℕ) → a ≤ k → k < a + n → test k ≡ true → list_any test (range_with_len a n) ≡ true
any-in-range test a zero k low high e = absurd (omega (arith, low, high))
any-in-range test a (suc n) k low high e = by (eqb_tells a k) (λ more. any-in-range test (a + 1) n k more (omega (arith, high)) e)
  where
    by : ((a == k) ≡ true) × (a ≡ k) ⊎ ((a == k) ≡ false) × (a ≢ k) → (a + 1 ≤ k → list_any test (range_with_len (a + 1) n) ≡ true) → (test a || list_any test (range_with_len (a + 1) n)) ≡ true
    by (inl here) more = rw (here.1, e) refl
    by (inr other) more = rw (more (omega (arith, low, other.1))) (or-yes (test a))

-- one item more than the first k of a list
pub take-more : {X : Type 0} (xs : List X) (k : ℕ) (x : X) → k < length xs → x ≡ get_or xs k x → take (k + 1) xs ≡ take k xs ++ x ∷ []
take-more xs k x l is = ap (λ n. take n xs) (add-one k) ∙ take-suc xs k x l ∙ ap (λ y. take k xs ++ y ∷ []) (sym is)

-- what holds of what is made of each number of a range holds of all that is made
pub all-flat : {X : Type 0} (P : X → Type 0) (f : ℕ → List X) (a n : ℕ) → ((j : ℕ) → a ≤ j → j < a + n → All P (f j)) → All P (flat_map f (range_with_len a n))
all-flat P f a zero each = All-nil P
all-flat P f a (suc n) each =
    rw (flat_map-cons f a (range_with_len (a + 1) n))
    (All-append P (f a) (flat_map f (range_with_len (a + 1) n)) (each a (omega arith) (omega arith)) (all-flat P f (a + 1) n (λ j low high. each j (omega (arith, low)) (omega (arith, high)))))
