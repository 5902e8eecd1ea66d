-- Lists that are changed in place, and the greatest number in a list.
use Rattle.std.specs.Prelude.{ℕ, max, List, [], ◌∷◌, ◌++◌, length, take, drop}

-- the list whose items are replaced by these from the first on, at its own length
abbrev pub with_items : {X : Type 0} → List X → List X → List X
with_items xs ws = take (length xs) (ws ++ drop (length ws) xs)

-- the greatest of a number and the numbers of the items
abbrev pub greatest_by : {X : Type 0} → (X → ℕ) → ℕ → List X → ℕ
greatest_by number first [] = first
greatest_by number first (x ∷ xs) = max (number x) (greatest_by number first xs)
