-- Lists of money.
use Rattle.std.specs.Prelude.{ℕ, ℤ, pos, ◌+ℤ◌, List, [], ◌∷◌, slice_index_or}
use Rattle.mari_units.specs.declared.numbers.Quarters.{Quarters}
use Rattle.mari_settle.specs.declared.ledger.OperatorLine.{OperatorLine}

-- nothing owed, and an operator's line in which nothing is owed
abbrev pub nothing : Quarters
nothing = record { 0 = pos 0 }

abbrev pub no_line : OperatorLine
no_line = record { payment = nothing; rent = nothing }

-- the amount at a place of a list
abbrev pub amount_at : List Quarters → ℕ → ℤ
amount_at amounts k = (slice_index_or amounts k nothing).0

-- what f gives of two lists side by side
abbrev pub map_along : {X Y Z : Type 0} → (X → Y → Z) → List X → List Y → List Z
map_along f [] ys = []
map_along f (x ∷ xs) [] = []
map_along f (x ∷ xs) (y ∷ ys) = f x y ∷ map_along f xs ys

-- two amounts together
abbrev pub together : Quarters → Quarters → Quarters
together a b = record { 0 = a.0 +ℤ b.0 }

-- two lines of one operator together
abbrev pub lines_together : OperatorLine → OperatorLine → OperatorLine
lines_together a b = record { payment = together a.payment b.payment; rent = together a.rent b.rent }
