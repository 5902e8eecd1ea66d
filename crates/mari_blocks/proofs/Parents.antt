-- Parents stand before their children among the bids of the joint market.
use Rattle.std.proofs.Common.{◌≡◌, ◌∙◌, ◌<◌, ◌≤◌, ◌+◌, ◌==◌, ℕ, zero, suc, Bool, true, false, List, [], ◌∷◌, ◌++◌, Option, Some, append_assoc, cond, filter, refl, sym, ap, arith, zero-add}
use Rattle.std.specs.Prelude.{◌||◌}
use Rattle.std.specs.List.{flat_map, range_with_len}
use Rattle.std.proofs.lemmas.List.{append-nil}
use Rattle.std.proofs.lemmas.List.Concat.{flat_map-cons}
use Rattle.std.proofs.lemmas.List.Elements.{filter-append}
use Rattle.std.proofs.lemmas.List.Folds.{list_any-append}
use Rattle.std.proofs.lemmas.Map.Views.{any-filter_same}
use Rattle.std.proofs.lemmas.Bool.{eqb-true}
use Rattle.std.proofs.lemmas.Bool.Decides.{nat_tests}
use Rattle.mari_blocks.specs.Joint.{is_one_of}
use Rattle.mari_blocks.proofs.Ranges.{range-more}

module _ (parent_of : ℕ → Option ℕ) where
  -- a bid's parent, if it has one, is among those before it
  abbrev pub FollowsParent : List ℕ → ℕ → Type 0
  FollowsParent before bid = (parent : ℕ) → parent_of bid ≡ Some parent → is_one_of before parent ≡ true

  -- and so is that of each of these bids, which stand after others
  abbrev pub FollowParents : (before bids : List ℕ) → Type 0
  FollowParents before [] = Unit {0}
  FollowParents before (bid ∷ bids) = FollowsParent before bid × FollowParents (before ++ bid ∷ []) bids

  -- it is so of one list after another
  pub follow-append : (before xs ys : List ℕ) → FollowParents before xs → FollowParents (before ++ xs) ys → FollowParents before (xs ++ ys)
  follow-append before [] ys first second = rw (append-nil before) at second
  follow-append before (x ∷ xs) ys first second = (first.0, follow-append (before ++ x ∷ []) xs ys first.1 (rw (sym (append_assoc before (x ∷ []) xs)) at second))

  -- and after more bids
  pub follow-after : (more before bids : List ℕ) → FollowParents before bids → FollowParents (more ++ before) bids
  follow-after more before [] follow = tt
  follow-after more before (bid ∷ bids) follow = (
    λ parent e. list_any-append (λ other. other == parent) more before ∙ or-second (is_one_of more parent) (is_one_of before parent) (follow.0 parent e),
    rw (append_assoc more before (bid ∷ [])) (follow-after more (before ++ bid ∷ []) bids follow.1),
  )
    where
      or-second : (a b : Bool) → b ≡ true → (a || b) ≡ true
      or-second true b e = refl
      or-second false b e = e

  -- where a test keeps the parents of the bids that it keeps, it is so of those that it keeps
  module _ (test : ℕ → Bool) (keeps : (bid parent : ℕ) → test bid ≡ true → parent_of bid ≡ Some parent → test parent ≡ true) where
    among-kept : (before : List ℕ) (parent : ℕ) → is_one_of before parent ≡ true → test parent ≡ true → is_one_of (filter test before) parent ≡ true
    among-kept before parent there stays =
        any-filter_same (λ other. other == parent) test true (λ other e. ap test (eqb-true other parent e) ∙ stays) before ∙ there

    pub follow-filter : (before bids : List ℕ) → FollowParents before bids → FollowParents (filter test before) (filter test bids)
    follow-filter before [] follow = tt
    follow-filter before (bid ∷ bids) follow = by (test bid) refl (follow-filter (before ++ bid ∷ []) bids follow.1)
      where
        by : (b : Bool) → test bid ≡ b → FollowParents (filter test (before ++ bid ∷ [])) (filter test bids) → FollowParents (filter test before) (cond b (bid ∷ filter test bids) (filter test bids))
        by true e rest = (
          λ parent up. among-kept before parent (follow.0 parent up) (keeps bid parent e up),
          rw (filter-append test before (bid ∷ []), e) at rest,
        )
        by false e rest = rw (filter-append test before (bid ∷ []), e, append-nil (filter test before)) at rest

  -- parents have smaller numbers, so it is so of all numbers
  one-of-range : (a n number : ℕ) → a ≤ number → number < a + n → is_one_of (range_with_len a n) number ≡ true
  one-of-range a zero number low high = absurd (omega (arith, low, high))
  one-of-range a (suc n) number low high = by (a == number) refl (λ more. one-of-range (a + 1) n number more (omega (arith, high)))
    where
      by : (b : Bool) → (a == number) ≡ b → (a + 1 ≤ number → is_one_of (range_with_len (a + 1) n) number ≡ true) → (b || is_one_of (range_with_len (a + 1) n) number) ≡ true
      by true e more = refl
      by false e more = more (grind (arith, nat_tests, e, low))

  pub follow-range : ((bid parent : ℕ) → parent_of bid ≡ Some parent → parent < bid) → (k n : ℕ) → FollowParents (range_with_len 0 k) (range_with_len k n)
  follow-range smaller k zero = tt
  follow-range smaller k (suc n) = (
    λ parent up. one-of-range 0 k parent (omega arith) (let less = smaller k parent up in omega (arith, less)),
    rw (range-more 0 k k (zero-add k)) at (follow-range smaller (k + 1) n),
  )

  -- what is so of each of several lists is so of them one after the other
  pub follow-flat : (list_of : ℕ → List ℕ) → (before : List ℕ) (a n : ℕ) → ((j : ℕ) → a ≤ j → j < a + n → FollowParents [] (list_of j)) → FollowParents before (flat_map list_of (range_with_len a n))
  follow-flat list_of before a zero each = tt
  follow-flat list_of before a (suc n) each =
      rw (flat_map-cons list_of a (range_with_len (a + 1) n))
      (follow-append before (list_of a) (flat_map list_of (range_with_len (a + 1) n))
      (rw (append-nil before) at (follow-after before [] (list_of a) (each a (omega arith) (omega arith))))
      (follow-flat list_of (before ++ list_of a) (a + 1) n (λ j low high. each j (omega (arith, low)) (omega (arith, high)))))

  -- what holds of no bids, and of one more after its parent, holds of all
  pub along-parents : (P : List ℕ → Type 0) → ((before : List ℕ) (bid : ℕ) → FollowsParent before bid → P before → P (before ++ bid ∷ []))
      → (before bids : List ℕ) → FollowParents before bids → P before → P (before ++ bids)
  along-parents P step before [] follow holds = rw (append-nil before) holds
  along-parents P step before (bid ∷ bids) follow holds =
      rw (append_assoc before (bid ∷ []) bids) at (along-parents P step (before ++ bid ∷ []) bids follow.1 (step before bid follow.0 holds))
