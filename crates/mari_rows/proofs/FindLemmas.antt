-- What is found in a list, and whether an option has a value.
use Rattle.std.proofs.Common.{◌≡◌, Bool, true, false, List, [], ◌∷◌, Option, Some, None, if◌then◌else◌, refl, sym}
use Rattle.std.specs.Prelude.{◌||◌, is_some, option_map}
use Rattle.std.specs.List.{All, find, list_any}
use Rattle.std.proofs.lemmas.List.Elements.{All-head, All-tail}

-- an item is found exactly where one passes
pub find-some : {X : Type 0} (test : X → Bool) (xs : List X) → is_some (find test xs) ≡ list_any test xs
find-some test [] = refl
find-some test (x ∷ xs) = by (test x) (find-some test xs)
  where
    by : (b : Bool) → is_some (find test xs) ≡ list_any test xs → is_some (if b then Some x else find test xs) ≡ (b || list_any test xs)
    by true more = refl
    by false more = more

-- an item that is found passes its test, and has what each item has
pub found-has : {X : Type 0} (test : X → Bool) (P : X → Type 0) (xs : List X) (x : X) → find test xs ≡ Some x → All P xs → (test x ≡ true) × P x
found-has test P [] x found all = cc found
found-has test P (y ∷ ys) x found all = by (test y) refl found (λ f. found-has test P ys x f (All-tail P y ys all))
  where
    by : (b : Bool) → test y ≡ b → (if b then Some y else find test ys) ≡ Some x → (find test ys ≡ Some x → (test x ≡ true) × P x) → (test x ≡ true) × P x
    by true e f more = let same : y ≡ x = cc f in (rw (sym same) e, rw (sym same) (All-head P y ys all))
    by false e f more = more f

pub map-some : {X Y : Type 0} (f : X → Y) (o : Option X) → is_some (option_map f o) ≡ is_some o
map-some f None = refl
map-some f (Some x) = refl

pub kept-none : {X : Type 0} (o : Option X) → is_some o ≡ false → o ≡ None
kept-none None none = refl
kept-none (Some x) none = cc none
