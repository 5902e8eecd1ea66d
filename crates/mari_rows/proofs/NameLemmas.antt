-- A test of what a list is mapped to.
use Rattle.std.proofs.Common.{◌≡◌, ◌∙◌, ℕ, Bool, true, false, List, [], ◌∷◌, ◌++◌, refl, sym, ap, length, arith, ◌≢◌, ◌<◌, zero, suc, get_or, true≢false, Some, Result, Ok, Err, IfOk, OnErr}
use Rattle.std.proofs.lemmas.Bool.{lt-ltb}
use Rattle.std.proofs.lemmas.List.{length-append, length-map, map-append}
use Rattle.std.proofs.lemmas.List.Quantifiers.{all_pairs_push}
use Rattle.std.proofs.lemmas.List.Sums.{position_or_len_is}
use Rattle.std.proofs.lemmas.Slice.Eq.{bytes_eq-Decides}
use Rattle.std.specs.Prelude.{map, position, ◌||◌}
use Rattle.std.specs.List.{list_any, position_or_len, AllPairs}
use Rattle.std.specs.Str.{bytes_eq}
use Rattle.indexmap.specs.IndexSet.{insert_key}
use Rattle.mari_rows.specs.Names.{is_among, name_at, place_in, AreNames}

module _ {X Y : Type 0} (f : X → Y) (test : Y → Bool) where
  pub list_any-map : (xs : List X) → list_any test (map f xs) ≡ list_any (λ x. test (f x)) xs
  list_any-map [] = refl
  list_any-map (x ∷ xs) = ap (λ b. test (f x) || b) (list_any-map xs)

  pub position_or_len-map : (xs : List X) → position_or_len test (map f xs) ≡ position_or_len (λ x. test (f x)) xs
  position_or_len-map [] = refl
  position_or_len-map (x ∷ xs) = rw (position_or_len-map xs) refl

  pub position-map : (xs : List X) → position test (map f xs) ≡ position (λ x. test (f x)) xs
  position-map xs = rw (position_or_len-map xs, length-map xs) refl

pub bytes_eq-same : (name : List ℕ) → bytes_eq name name ≡ true
bytes_eq-same name = (bytes_eq-Decides name name).1 refl

-- where two names differ, the test states
names-differ : (a b : List ℕ) → a ≢ b → bytes_eq a b ≡ false
names-differ a b apart = by (bytes_eq a b) refl
  where
    by : (t : Bool) → bytes_eq a b ≡ t → bytes_eq a b ≡ false
    by false e = e
    by true e = absurd (apart ((bytes_eq-Decides a b).0 e))

-- a name's place, among names of which no two are the same
pub place-of-name : (names : List (List ℕ)) → AllPairs (λ a b. a ≢ b) names → (i : ℕ) → i < length names → place_in names (name_at names i) ≡ i
place-of-name names apart i l =
    position_or_len_is (bytes_eq (name_at names i)) names i [] (omega (arith, l))
    (λ k before. names-differ (name_at names i) (get_or names k []) (λ same. apart k i [] before l (sym same)))
    (λ there. bytes_eq-same (name_at names i))

pub ruleset name_lemmas = (list_any-map, position-map, length-map, map-append)

-- where no item passes, the first place that passes is the length
pub position_or_len-none : {X : Type 0} (test : X → Bool) (xs : List X) → list_any test xs ≡ false → position_or_len test xs ≡ length xs
position_or_len-none test [] none = refl
position_or_len-none test (x ∷ xs) none = by (test x) refl none (position_or_len-none test xs)
  where
    by : (b : Bool) → test x ≡ b → (test x || list_any test xs) ≡ false → (list_any test xs ≡ false → position_or_len test xs ≡ length xs)
        → position_or_len test (x ∷ xs) ≡ length (x ∷ xs)
    by true e n more = cc (rw e at n)
    by false e n more = rw (e, more (rw e at n)) (grind arith)

-- the first item that passes, after others that do not
first-position : {X : Type 0} (test : X → Bool) (xs ys : List X) (y : X) → list_any test xs ≡ false → test y ≡ true → position_or_len test (xs ++ y ∷ ys) ≡ length xs
first-position test [] ys y none here = rw here refl
first-position test (x ∷ xs) ys y none here = by (test x) refl none (first-position test xs ys y)
  where
    by : (b : Bool) → test x ≡ b → (b || list_any test xs) ≡ false → (list_any test xs ≡ false → test y ≡ true → position_or_len test (xs ++ y ∷ ys) ≡ length xs)
        → position_or_len test (x ∷ (xs ++ y ∷ ys)) ≡ length (x ∷ xs)
    by true e n more = cc n
    by false e n more = rw (e, more n here) (omega arith)

pub position-after : {X : Type 0} (test : X → Bool) (xs ys : List X) (y : X) → list_any test xs ≡ false → test y ≡ true → position test (xs ++ y ∷ ys) ≡ Some (length xs)
position-after test xs ys y none here =
    let within : length xs < length (xs ++ y ∷ ys) = grind (arith, length-append) in
    rw (first-position test xs ys y none here, lt-ltb (length xs) (length (xs ++ y ∷ ys)) within) refl

-- a new name goes last, at the place that the length gives
module _ {V : Type 0} (items : V → List ℕ) (keys : List V) (text : V) (names : List (List ℕ)) (name : List ℕ)
    (is_name : items text ≡ name) (are_names : map items keys ≡ names) (new : is_among names name ≡ false) where
  absent : list_any (λ k. bytes_eq (items text) (items k)) keys ≡ false
  absent = sym (list_any-map items (bytes_eq (items text)) keys) ∙ rw (is_name, are_names) new

  pub added-names : map items (insert_key (λ a b. bytes_eq (items a) (items b)) keys text) ≡ names ++ name ∷ []
  added-names = rw absent (rw (is_name, are_names) at (map-append items keys (text ∷ [])))

  pub added-place : position_or_len (λ k. bytes_eq (items text) (items k)) keys ≡ length names
  added-place = position_or_len-none (λ k. bytes_eq (items text) (items k)) keys absent ∙ sym (length-map keys items) ∙ ap length are_names

-- a name that is not among others is none of them
pub not-among : (names : List (List ℕ)) (name : List ℕ) → is_among names name ≡ false → (k : ℕ) (d : List ℕ) → k < length names → get_or names k d ≢ name
not-among [] name new k d within same = omega (arith, within)
not-among (n ∷ ns) name new k d within same = by (bytes_eq name n) refl new k within same (not-among ns name)
  where
    by : (b : Bool) → bytes_eq name n ≡ b → (b || is_among ns name) ≡ false → (k : ℕ) → k < length (n ∷ ns) → get_or (n ∷ ns) k d ≡ name
        → (is_among ns name ≡ false → (k : ℕ) (d : List ℕ) → k < length ns → get_or ns k d ≢ name) → ⊥
    by true e h k within same more = cc h
    by false e h zero within same more = true≢false (sym (rw same (bytes_eq-same name)) ∙ e)
    by false e h (suc k) within same more = more h k d (omega (arith, within)) same

-- names and a new one
pub added-AreNames : (names : List (List ℕ)) (name : List ℕ) → AreNames names → length names < 4294967295 → is_among names name ≡ false → AreNames (names ++ name ∷ [])
added-AreNames names name are room new = record {
  few = grind (arith, length-append);
  distinct = all_pairs_push (λ a b. a ≢ b) names name are.distinct (not-among names name new);
}

-- what the keys are after a try to add one: the names as they were, or with the new one
module _ {V : Type 0} (items : V → List ℕ) (keys : List V) (text : V) (names : List (List ℕ)) (name : List ℕ)
    (is_name : items text ≡ name) (are_names : map items keys ≡ names) (new : is_among names name ≡ false) (are : AreNames names) (room : length names < 4294967295) where
  pub tried-AreNames : {X Y : Type 0} (tried : Result X Y) (after : List V)
      → IfOk tried (λ _. after ≡ insert_key (λ a b. bytes_eq (items a) (items b)) keys text) → OnErr tried (after ≡ keys) → AreNames (map items after)
  tried-AreNames (Ok x) after ok err = rw (ok, added-names items keys text names name is_name are_names new) (added-AreNames names name are room new)
  tried-AreNames (Err y) after ok err = rw (err, are_names) are
