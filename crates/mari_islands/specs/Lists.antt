-- Numbers in lists, and vectors as lists.
use Rattle.std.specs.Prelude.{ℕ, ◌+◌, ◌==◌, Bool, List, [], ◌∷◌, Option, Vec, if◌then◌else◌, map, position, unwrap_or}

-- the places, counted from k, of the items that pass the test
abbrev pub places_from : {X : Type 0} → (X → Bool) → ℕ → List X → List ℕ
places_from p k [] = []
places_from p k (x ∷ xs) = if p x then k ∷ places_from p (k + 1) xs else places_from p (k + 1) xs

-- the place of a number in a list, if it is there
abbrev pub place_in : List ℕ → ℕ → Option ℕ
place_in xs x = position (λ j. j == x) xs

-- the place of a number that is there
abbrev pub place_of : List ℕ → ℕ → ℕ
place_of xs x = unwrap_or (place_in xs x) 0

-- the lists of vectors
abbrev pub lists_of : {X A : Type 0} → List (Vec X A) → List (List X)
lists_of vectors = map (λ v. v.items) vectors
