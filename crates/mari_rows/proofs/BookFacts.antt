-- What holds of a book's lines, line by line.
use Rattle.std.proofs.Common.{◌≡◌, ◌≢◌, ◌∙◌, ◌≤◌, ◌<◌, ◌+◌, ◌==◌, ◌⊎◌, ℕ, Bool, true, false, List, [], ◌∷◌, ◌++◌, Option, Some, None, append_assoc, length, map, get_or, fold, refl, sym, ap, arith, inl, inr, if◌then◌else◌}
use Rattle.std.specs.Prelude.{◌||◌, ℤ, pos, negsuc, neg_ℤ, nat_le, nat_lt, int_le, is_some, unwrap_or, option_map, count_by, position, ◌&&◌}
use Rattle.std.specs.List.{AllPairs, All, position_or_len}
use Rattle.std.specs.Option.{option_and_then}
use Rattle.std.specs.Str.{bytes_eq}
use Rattle.std.proofs.lemmas.Bool.Decides.{eqb_tells, nat_tests}
use Rattle.std.proofs.lemmas.Bool.{leb-true, ltb-true}
use Rattle.std.proofs.lemmas.Int.{ints}
use Rattle.std.proofs.lemmas.List.{append-nil}
use Rattle.std.proofs.lemmas.List.Folds.{list_all-map}
use Rattle.std.proofs.lemmas.List.Elements.{All-head, All-nil, All-push, All-tail}
use Rattle.std.proofs.lemmas.List.Sums.{AllPass-from_list_all}
use Rattle.std.proofs.lemmas.Option.{cond_some}
use Rattle.std.proofs.lemmas.List.Quantifiers.{all_pairs_push}
use Rattle.mari_units.specs.Numbers.{price_of, whole_of}
use Rattle.mari_units.specs.Prices.{IsPrice}
use Rattle.mari_units.specs.declared.numbers.Cents.{Cents}
use Rattle.mari_rows.specs.Books.{Checks, Grammar, first_failing, line_refusal}
use Rattle.mari_rows.specs.Fields.{cents_in, number_in, within, within_cap}
use Rattle.mari_rows.specs.First.{HasNoFault}
use Rattle.mari_rows.specs.Names.{distinct, is_among, place_in, with_name}
use Rattle.mari_rows.specs.declared.rows.Row.{Row}
use Rattle.mari_rows.specs.declared.faults.BookFault.TheVariants as refused
use Rattle.mari_rows.proofs.BookLemmas.{IsBookOf, passed}
use Rattle.mari_rows.proofs.CountLemmas.{count_by-push}
use Rattle.mari_rows.proofs.NameLemmas.{not-among}
use Rattle.mari_rows.proofs.PlaceLemmas.{all-among}

-- what one more line without a fault keeps, holds of all lines where none has a fault
module _ {X F : Type 0} (fault_of : List X → X → Option F) (P : List X → Type 0)
    (step : (before : List X) (item : X) → fault_of before item ≡ None → P before → P (before ++ item ∷ [])) where
  from-after : (before xs : List X) → P before
      → ((b after : List X) (item : X) → xs ≡ b ++ item ∷ after → fault_of (before ++ b) item ≡ None) → P (before ++ xs)
  from-after before [] holds none = rw (append-nil before) holds
  from-after before (x ∷ xs) holds none =
      let here = rw (append-nil before) at (none [] xs x refl) in
      let more = from-after (before ++ x ∷ []) xs (step before x here holds)
      (λ b after item whole. rw (append_assoc before (x ∷ []) b) (none (x ∷ b) after item (ap (λ l. x ∷ l) whole))) in
      rw (append_assoc before (x ∷ []) xs) at more

  pub along : (xs : List X) → P [] → HasNoFault fault_of xs → P xs
  along xs start none = from-after [] xs start none

-- a line that is not refused has no check that fails
pub no-failing : (line : ℕ) (failing : Option ℕ) → option_map (λ number. refused.At line number) failing ≡ None → failing ≡ None
no-failing line None none = refl
no-failing line (Some number) none = cc none

-- the same of the lines of a book
module _ {Book : Type 0} (g : Grammar Book) (P : List Row → Type 0)
    (step : (before : List Row) (line : Row) → first_failing (g.line_checks before line) ≡ None → P before → P (before ++ line ∷ [])) where
  pub along-lines : (rows : List Row) (book : Book) → IsBookOf g rows book → P [] → P rows
  along-lines rows book is start =
      along (line_refusal g) P (λ before line none. step before line (no-failing line.line (first_failing (g.line_checks before line)) none)) rows start is.lines

-- counts of each number stay at most `most`, where the number of one more item stood below it
pub counts-at-most : {X : Type 0} (number_of : X → ℕ) (most : ℕ) (xs : List X) (x : X) → nat_le most (count_by (λ y. number_of y == number_of x) xs) ≡ false
    → ((k : ℕ) → count_by (λ y. number_of y == k) xs ≤ most) → (k : ℕ) → count_by (λ y. number_of y == k) (xs ++ x ∷ []) ≤ most
counts-at-most number_of most xs x room all k = by (eqb_tells (number_of x) k)
  where
    by : ((number_of x == k) ≡ true) × (number_of x ≡ k) ⊎ ((number_of x == k) ≡ false) × (number_of x ≢ k) → count_by (λ y. number_of y == k) (xs ++ x ∷ []) ≤ most
    by (inl same) =
        let below : count_by (λ y. number_of y == k) xs < most = grind (arith, nat_tests, rw same.1 at room) in
        rw (count_by-push (λ y. number_of y == k) xs x, same.0) (omega (arith, below))
    by (inr other) = rw (count_by-push (λ y. number_of y == k) xs x, other.0) (omega (arith, all k))

-- names of which none is among the earlier ones are distinct
pub distinct-more : (names : List (List ℕ)) (name : List ℕ) → AllPairs (λ a b. a ≢ b) names → is_among names name ≡ false → AllPairs (λ a b. a ≢ b) (names ++ name ∷ [])
distinct-more names name distinct new = all_pairs_push (λ a b. a ≢ b) names name distinct (not-among names name new)

-- none of these checks fails
abbrev pub AllPassed : Checks → Type 0
AllPassed [] = Unit {0}
AllPassed (check ∷ checks) = (check.0 ≡ false) × AllPassed checks

pub all-passed : (checks : Checks) → first_failing checks ≡ None → AllPassed checks
all-passed [] none = tt
all-passed (check ∷ checks) none = let first = passed check checks none in (first.0, all-passed checks first.1)

pub none-fails : (checks : Checks) → AllPassed checks → first_failing checks ≡ None
none-fails [] all = refl
none-fails (check ∷ checks) all = rw all.0 (none-fails checks all.1)

-- a number that a text writes is within its bounds
pub number-bounds : (least greatest : ℕ) (text : List ℕ) → is_some (number_in least greatest text) ≡ true
    → (least ≤ unwrap_or (number_in least greatest text) 0) × (unwrap_or (number_in least greatest text) 0 ≤ greatest)
number-bounds least greatest text some = by (whole_of text) some
  where
    tested : (n : ℕ) (b c : Bool) → nat_le least n ≡ b → nat_le n greatest ≡ c → is_some (if b && c then Some n else None) ≡ true
        → (least ≤ unwrap_or (if b && c then Some n else None) 0) × (unwrap_or (if b && c then Some n else None) 0 ≤ greatest)
    tested n true true low high s = (leb-true least n low, leb-true n greatest high)
    tested n true false low high s = cc s
    tested n false c low high s = cc s

    by : (z : Option ℤ) → is_some (option_and_then (within least greatest) z) ≡ true
        → (least ≤ unwrap_or (option_and_then (within least greatest) z) 0) × (unwrap_or (option_and_then (within least greatest) z) 0 ≤ greatest)
    by None s = cc s
    by (Some (pos n)) s = tested n (nat_le least n) (nat_le n greatest) refl refl s
    by (Some (negsuc n)) s = cc s

-- a price that a text writes is within the cap
pub price-within : (text : List ℕ) (price : Cents) → cents_in text ≡ Some price → IsPrice price.0
price-within text price read = by (price_of text) read
  where
    cents : ℤ → Cents
    cents z = record { 0 = z }

    tested : (z : ℤ) (b c : Bool) → int_le (neg_ℤ (pos 9999900)) z ≡ b → int_le z (pos 9999900) ≡ c
        → (if b && c then Some (cents z) else None) ≡ Some price → IsPrice price.0
    tested z true true low high s = let same : z ≡ price.0 = cc s in rw (sym same) (record { low = grind (arith, ints, low); high = grind (arith, ints, high) })
    tested z true false low high s = cc s
    tested z false c low high s = cc s

    by : (z : Option ℤ) → option_and_then within_cap z ≡ Some price → IsPrice price.0
    by None s = cc s
    by (Some z) s = tested z (int_le (neg_ℤ (pos 9999900)) z) (int_le z (pos 9999900)) refl refl s

-- a name that is among others has a place
pub place-below : (names : List (List ℕ)) (name : List ℕ) → is_among names name ≡ true → place_in names name < length names
place-below [] name there = cc there
place-below (n ∷ ns) name there = by (bytes_eq name n) refl there (place-below ns name)
  where
    by : (b : Bool) → bytes_eq name n ≡ b → (b || is_among ns name) ≡ true → (is_among ns name ≡ true → place_in ns name < length ns)
        → place_in (n ∷ ns) name < length (n ∷ ns)
    by true e h more = rw e (omega arith)
    by false e h more = rw e (omega (arith, more h))

-- each of these names has a place among the distinct ones
pub places-below : {X : Type 0} (name_of : X → List ℕ) (xs : List X)
    → All (λ x. place_in (distinct (map name_of xs)) (name_of x) < length (distinct (map name_of xs))) xs
places-below name_of xs =
    let names = distinct (map name_of xs) in
    let there = AllPass-from_list_all (λ x. is_among names (name_of x)) xs (sym (list_all-map (is_among names) name_of xs) ∙ all-among [] (map name_of xs)) in
    λ k d within. place-below names (name_of (get_or xs k d)) (there k d within)

-- a place that is found is one of the list
pub position-below : {X : Type 0} (test : X → Bool) (xs : List X) (place : ℕ) → position test xs ≡ Some place → place < length xs
position-below test xs place found =
    let parts = cond_some (nat_lt (position_or_len test xs) (length xs)) (position_or_len test xs) place found in
    omega (arith, ltb-true (position_or_len test xs) (length xs) parts.0, parts.1)

pub found-below : {X : Type 0} (test : X → Bool) (xs : List X) → is_some (position test xs) ≡ true → unwrap_or (position test xs) 0 < length xs
found-below test xs some = by (position test xs) refl some
  where
    by : (o : Option ℕ) → position test xs ≡ o → is_some o ≡ true → unwrap_or o 0 < length xs
    by None e s = cc s
    by (Some place) e s = position-below test xs place e

-- a price that is read, in place of any other
pub read-within : (text : List ℕ) (other : Cents) → is_some (cents_in text) ≡ true → IsPrice (unwrap_or (cents_in text) other).0
read-within text other some = by (cents_in text) refl some
  where
    by : (o : Option Cents) → cents_in text ≡ o → is_some o ≡ true → IsPrice (unwrap_or o other).0
    by None e s = cc s
    by (Some price) e s = price-within text price e

-- a count of what a list is mapped to
pub count_by-map : {X Y : Type 0} (f : X → Y) (test : Y → Bool) (xs : List X) → count_by test (map f xs) ≡ count_by (λ x. test (f x)) xs
count_by-map f test xs = from 0 xs
  where
    from : (n : ℕ) (ys : List _) → fold (λ m y. m + (if test y then 1 else 0)) n (map f ys) ≡ fold (λ m y. m + (if test (f y) then 1 else 0)) n ys
    from n [] = refl
    from n (y ∷ ys) = from (n + (if test (f y) then 1 else 0)) ys

-- what holds of all names holds of the distinct ones
module _ (P : List ℕ → Type 0) where
  one-name : (names : List (List ℕ)) (name : List ℕ) → All P names → P name → All P (with_name names name)
  one-name names name all here = elim (is_among names name) as (λ b. All P (if b then names else names ++ name ∷ [])) [
    | true ↦ all
    | false ↦ All-push P names name all here
  ]

  each-name : (names xs : List (List ℕ)) → All P names → All P xs → All P (fold with_name names xs)
  each-name names [] all more = all
  each-name names (x ∷ xs) all more = each-name (with_name names x) xs (one-name names x all (All-head P x xs more)) (All-tail P x xs more)

  pub all-distinct : (xs : List (List ℕ)) → All P xs → All P (distinct xs)
  all-distinct xs all = each-name [] xs (All-nil P) all
