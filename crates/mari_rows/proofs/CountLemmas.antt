-- Counts of items by a number of theirs.
use Rattle.std.proofs.Common.{◌≡◌, ◌≢◌, ◌≤◌, ◌<◌, ◌+◌, ◌==◌, ◌⊎◌, ◌∙◌, ◌++◌, ◌∷◌, [], ℕ, List, Bool, true, false, get_or, length, if◌then◌else◌, sym, ap, arith, add-zero, take, drop, inl, inr}
use Rattle.std.specs.Prelude.{count_by, nat_le, nat_lt}
use Rattle.std.proofs.Math.ListN.{set}
use Rattle.std.proofs.lemmas.Bool.Decides.{eqb_tells, nat_tests}
use Rattle.std.proofs.lemmas.List.Sums.{fold-append}
use Rattle.std.proofs.lemmas.List.{append-nil, drop_all, get_or-set_other, take_all}
use Rattle.std.proofs.lemmas.Grind.{get_or-set_at}

-- one more item is counted, or not
pub count_by-push : {X : Type 0} (p : X → Bool) (xs : List X) (x : X) → count_by p (xs ++ x ∷ []) ≡ count_by p xs + (if p x then 1 else 0)
count_by-push p xs x = fold-append (λ n y. n + (if p y then 1 else 0)) 0 xs (x ∷ [])

-- the counts of each number, with one more item
module _ {X : Type 0} (number_of : X → ℕ) (most : ℕ) (xs : List X) (x : X) (counts : List ℕ) (room : most < length counts) (within : number_of x ≤ most)
    (so_far : (k : ℕ) → k ≤ most → get_or counts k 0 ≡ count_by (λ y. number_of y == k) xs) where
  pub counts-push : (k : ℕ) → k ≤ most → get_or (set counts (number_of x) (get_or counts (number_of x) 0 + 1)) k 0 ≡ count_by (λ y. number_of y == k) (xs ++ x ∷ [])
  counts-push k below = by (eqb_tells (number_of x) k)
    where
      pushed : count_by (λ y. number_of y == k) (xs ++ x ∷ []) ≡ count_by (λ y. number_of y == k) xs + (if number_of x == k then 1 else 0)
      pushed = count_by-push (λ y. number_of y == k) xs x

      by : ((number_of x == k) ≡ true) × (number_of x ≡ k) ⊎ ((number_of x == k) ≡ false) × (number_of x ≢ k)
          → get_or (set counts (number_of x) (get_or counts (number_of x) 0 + 1)) k 0 ≡ count_by (λ y. number_of y == k) (xs ++ x ∷ [])
      by (inl same) =
          get_or-set_at counts (number_of x) k (get_or counts (number_of x) 0 + 1) 0 (sym same.1) (omega (arith, room, within))
          ∙ ap (λ n. n + 1) (ap (λ n. get_or counts n 0) same.1 ∙ so_far k below) ∙ sym (rw same.0 at pushed)
      by (inr other) =
          get_or-set_other counts (number_of x) k (get_or counts (number_of x) 0 + 1) 0 (λ e. other.1 (sym e))
          ∙ so_far k below ∙ sym (add-zero (count_by (λ y. number_of y == k) xs)) ∙ sym (rw other.0 at pushed)

-- a count below the most, or not
pub below : (most count : ℕ) → nat_lt count most ≡ true → nat_le most count ≡ false
below most count room = grind (arith, nat_tests)

pub not-below : (most count : ℕ) → nat_lt count most ≡ false → nat_le most count ≡ true
not-below most count full = grind (arith, nat_tests)

-- a list that was written over as a whole
pub written-back : (old new : List ℕ) (len : ℕ) → length new ≡ length old → len ≡ length old → take len (new ++ drop (length new) old) ≡ new
written-back old new len same all = rw (all, sym same, drop_all (length new) old (omega (arith, same)), append-nil new) (take_all (length new) new (omega arith))
