-- The first fault along a list, item by item.
use Rattle.std.proofs.Common.{◌≡◌, List, [], ◌∷◌, ◌++◌, Option, Some, None, Ok, refl}
use Rattle.mari_rows.specs.First.{first_fault_after, unless_fault}

module _ {X F : Type 0} (fault_of : List X → X → Option F) (earlier xs rest : List X) (x : X) (next : xs ≡ x ∷ rest) where
  -- the first fault lies after an item that has none
  pub first_fault-go : fault_of earlier x ≡ None → first_fault_after fault_of (earlier ++ x ∷ []) rest ≡ first_fault_after fault_of earlier xs
  first_fault-go none = rw (next, none) refl

  -- and is that of the item, where it has one
  pub first_fault-here : {fault : F} → fault_of earlier x ≡ Some fault → first_fault_after fault_of earlier xs ≡ Some fault
  first_fault-here found = rw (next, found) refl

-- a value that comes in place of a fault shows that there is no fault, and is the one that was to come
pub value-no-fault : {A F : Type 0} (fault : Option F) (want value : A) → Ok value ≡ unless_fault fault want → (fault ≡ None) × (value ≡ want)
value-no-fault None want value given = (refl, cc given)
value-no-fault (Some f) want value given = cc given
