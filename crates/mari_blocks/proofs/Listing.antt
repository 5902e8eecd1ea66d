-- Items each once, in order of first appearance, where a test states which are equal.
use Rattle.std.proofs.Common.{◌≡◌, ◌∙◌, ◌<◌, ℕ, zero, suc, Bool, true, false, List, [], ◌∷◌, ◌++◌, Some, get_or, length, fold, refl, arith, nat_lt, if◌then◌else◌}
use Rattle.std.specs.Prelude.{◌||◌, position}
use Rattle.std.specs.List.{All, AllPairs, list_any, position_or_len}
use Rattle.std.proofs.lemmas.Bool.{lt-ltb, or_parts}
use Rattle.std.proofs.lemmas.List.Elements.{All-head, All-nil, All-push, All-tail}
use Rattle.std.proofs.lemmas.List.Folds.{list_any-append}
use Rattle.std.proofs.lemmas.List.Quantifiers.{all_pairs_push}
use Rattle.std.proofs.lemmas.List.Sums.{position_or_len_is}
use Rattle.mari_rows.specs.Names.{listed_once, listed_with}
use Rattle.mari_links.proofs.EntryLemmas.{or-yes}

-- where none passes, that at a place doesn't
pub none-at : {X : Type 0} (test : X → Bool) (xs : List X) → list_any test xs ≡ false → (k : ℕ) (d : X) → k < length xs → test (get_or xs k d) ≡ false
none-at test [] none k d l = absurd (omega (arith, l))
none-at test (x ∷ xs) none zero d l = (or_parts (test x) (list_any test xs) none).0
none-at test (x ∷ xs) none (suc k) d l = none-at test xs (or_parts (test x) (list_any test xs) none).1 k d (omega (arith, l))

module _ {X : Type 0} (same : X → X → Bool) where
  -- what holds of each item holds of each one once
  module _ (P : X → Type 0) where
    one-more : (items : List X) (x : X) → All P items → P x → All P (listed_with same items x)
    one-more items x all here = by (list_any (same x) items)
      where
        by : (b : Bool) → All P (if b then items else items ++ x ∷ [])
        by true = all
        by false = All-push P items x all here

    more : (items xs : List X) → All P items → All P xs → All P (fold (listed_with same) items xs)
    more items [] all rest = all
    more items (x ∷ xs) all rest = more (listed_with same items x) xs (one-more items x all (All-head P x xs rest)) (All-tail P x xs rest)

    pub all-once : (xs : List X) → All P xs → All P (listed_once same xs)
    all-once xs all = more [] xs (All-nil P) all

  -- no item is equal to one before it
  abbrev pub Apart : List X → Type 0
  Apart items = AllPairs (λ a b. same b a ≡ false) items

  apart-more : (items : List X) (x : X) → Apart items → Apart (listed_with same items x)
  apart-more items x apart = by (list_any (same x) items) refl
    where
      by : (b : Bool) → list_any (same x) items ≡ b → Apart (if b then items else items ++ x ∷ [])
      by true e = apart
      by false e = all_pairs_push (λ a b. same b a ≡ false) items x apart (none-at (same x) items e)

  apart-all : (items xs : List X) → Apart items → Apart (fold (listed_with same) items xs)
  apart-all items [] apart = apart
  apart-all items (x ∷ xs) apart = apart-all (listed_with same items x) xs (apart-more items x apart)

  pub apart-once : (xs : List X) → Apart (listed_once same xs)
  apart-once xs = apart-all [] xs (λ i j d l m. absurd (omega (arith, m)))

  module _ (is : (x : X) → same x x ≡ true) where
    -- so each is found at its place
    pub own-place : (items : List X) (k : ℕ) (d : X) → Apart items → k < length items → position (same (get_or items k d)) items ≡ Some k
    own-place items k d apart l =
        let first : position_or_len (same (get_or items k d)) items ≡ k =
        position_or_len_is (same (get_or items k d)) items k d (omega (arith, l)) (λ j less. apart j k d less l) (λ m. is (get_or items k d)) in
        rw first (let here : nat_lt k (length items) ≡ true = lt-ltb k (length items) l in rw here refl)

    module _ (equal : (x y : X) → same x y ≡ true → x ≡ y) where
      there-more : (x : X) (items : List X) (y : X) → (list_any (same x) items || same x y) ≡ true → list_any (same x) (listed_with same items y) ≡ true
      there-more x items y e = by (list_any (same y) items) refl
        where
          already : (b : Bool) → same x y ≡ b → list_any (same y) items ≡ true → (list_any (same x) items || b) ≡ true → list_any (same x) items ≡ true
          already true f old g = rw (equal x y f) old
          already false f old g = or-no (list_any (same x) items) g
            where
              or-no : (a : Bool) → (a || false) ≡ true → a ≡ true
              or-no true g = refl
              or-no false g = g

          by : (b : Bool) → list_any (same y) items ≡ b → list_any (same x) (if b then items else items ++ y ∷ []) ≡ true
          by true f = already (same x y) refl f e
          by false f = list_any-append (same x) items (y ∷ []) ∙ regroup (list_any (same x) items) (same x y) e
            where
              regroup : (a b : Bool) → (a || b) ≡ true → (a || (b || false)) ≡ true
              regroup true b g = refl
              regroup false true g = refl
              regroup false false g = g

      there-all : (x : X) (items xs : List X) → (list_any (same x) items || list_any (same x) xs) ≡ true → list_any (same x) (fold (listed_with same) items xs) ≡ true
      there-all x items [] e = or-no (list_any (same x) items) e
        where
          or-no : (a : Bool) → (a || false) ≡ true → a ≡ true
          or-no true g = refl
          or-no false g = g
      there-all x items (y ∷ ys) e = there-all x (listed_with same items y) ys (by (list_any (same x) items || same x y) refl (regroup (list_any (same x) items) (same x y) (list_any (same x) ys) e))
        where
          regroup : (a b c : Bool) → (a || (b || c)) ≡ true → ((a || b) || c) ≡ true
          regroup true b c g = refl
          regroup false b c g = g

          by : (b : Bool) → (list_any (same x) items || same x y) ≡ b → (b || list_any (same x) ys) ≡ true → (list_any (same x) (listed_with same items y) || list_any (same x) ys) ≡ true
          by true f g = rw (there-more x items y f) refl
          by false f g = rw g (or-yes (list_any (same x) (listed_with same items y)))

      -- what is among the items is among them once
      pub there-once : (x : X) (xs : List X) → list_any (same x) xs ≡ true → list_any (same x) (listed_once same xs) ≡ true
      there-once x xs e = there-all x [] xs e
