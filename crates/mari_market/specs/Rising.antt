-- Lists in order of a price.
use Rattle.std.specs.Prelude.{if◌then◌else◌, ℕ, ◌<◌, ◌≤◌, ℤ, ◌≤ℤ◌, List, [], ◌∷◌, length, slice_index_or}
use lib.Signed.{lt_z}

-- no item is dearer than a later one
abbrev pub RisesBy : {X : Type 0} → (X → ℤ) → List X → Type 0
RisesBy {X = X} price xs = (i j : ℕ) (d : X) → i ≤ j → j < length xs → price (slice_index_or xs i d) ≤ℤ price (slice_index_or xs j d)

-- the value of the last item that costs less than p, or `before` if none does
abbrev pub last_below : {X : Type 0} → (price value : X → ℤ) → (p before : ℤ) → List X → ℤ
last_below price value p before [] = before
last_below price value p before (x ∷ xs) = last_below price value p (if lt_z (price x) p then value x else before) xs
