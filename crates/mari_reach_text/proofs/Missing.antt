-- A list with an item that stands for nothing.
use Rattle.std.proofs.Common.{◌≡◌, List, [], ◌∷◌, ◌++◌, Option, Some, None, map}

-- no list of items is one in which something is missing
pub none-missing : {X : Type 0} (xs ys : List X) (more : List (Option X)) → map Some ys ++ None ∷ more ≡ map Some xs → ⊥
none-missing [] [] more e = absurd (cc e)
none-missing (x ∷ xs) [] more e = absurd (cc e)
none-missing [] (y ∷ ys) more e = absurd (cc e)
none-missing (x ∷ xs) (y ∷ ys) more e = none-missing xs ys more (cc e)
