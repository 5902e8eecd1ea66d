-- What it means to read something from its value: it has this value, or nothing in range has.
use Rattle.std.specs.Prelude.{◌≡◌, ℕ, List, Result, Ok, Err, ⊤}
use Rattle.serde_json.specs.Data.{Data, Members, member}
use Rattle.mari_feed.specs.declared.fault.FeedFault.{FeedFault}
use Rattle.mari_feed.specs.declared.fault.FeedFault.TheVariants as fault

-- x is in range and has this value; or nothing in range has it; or memory ran out
abbrev pub Reads : {X : Type 0} → (X → Type 0) → (X → Data) → Data → Result X FeedFault → Type 0
Reads InItsRange value d (Ok x) = InItsRange x × (value x ≡ d)
Reads InItsRange value d (Err fault.NotJson) = ⊥
Reads InItsRange value d (Err fault.NotAPart) = (x : _) → InItsRange x → value x ≡ d → ⊥
Reads InItsRange value d (Err fault.Memory) = ⊤

-- the first member has this key and the value of x, and the others are left; or it has not, for any x in range; or
-- memory ran out
abbrev pub ReadsMember : {X : Type 0} → List ℕ → (X → Type 0) → (X → Data) → Members → Members → Result X FeedFault → Type 0
ReadsMember key InItsRange value ms left (Ok x) = InItsRange x × (ms ≡ member key (value x) left)
ReadsMember key InItsRange value ms left (Err fault.NotJson) = ⊥
ReadsMember key InItsRange value ms left (Err fault.NotAPart) = (x : _) (others : Members) → InItsRange x → ms ≡ member key (value x) others → ⊥
ReadsMember key InItsRange value ms left (Err fault.Memory) = ⊤
