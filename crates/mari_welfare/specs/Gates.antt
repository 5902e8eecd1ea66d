-- Gates, as the tests go through them.
use Rattle.std.specs.Prelude.{◌≡◌, ◌≢◌, Bool, true, ℕ, ◌<◌, List, Option, Some, IfSome}
use Rattle.mari_units.specs.declared.limits.TheConstants.{MOST_GATES}
use Rattle.mari_market.specs.declared.market.GateInfo.{GateInfo}
use Rattle.mari_market.specs.declared.market.Order.{Order}
use Rattle.mari_market.specs.Gates.{group_of, parent_of}

-- the order's gate, if it has one, is one of the most there may be
abbrev pub IsOfFewGates : Order → Type 0
IsOfFewGates o = IfSome o.gate (λ g. g < MOST_GATES)

-- the gate's parent, if it has one, is open
abbrev pub HasOpenParent : (ℕ → Bool) → Option ℕ → Type 0
HasOpenParent opens parent = (h : ℕ) → parent ≡ Some h → opens h ≡ true

-- every open gate of the group is the one at this place
abbrev pub IsAloneIn : List GateInfo → (ℕ → Bool) → ℕ → ℕ → Type 0
IsAloneIn gates opens place group = (h : ℕ) → opens h ≡ true → group_of gates h ≡ Some group → place ≡ h

-- another open gate of the group
pub record IsRival (gates : List GateInfo) (opens : ℕ → Bool) (place group other : ℕ) : Type 0 where
  pub apart : place ≢ other
  pub same : group_of gates other ≡ Some group
  pub running : opens other ≡ true

-- if the gate is in a group, it is alone there
abbrev pub IsAlone : List GateInfo → (ℕ → Bool) → ℕ → Option ℕ → Type 0
IsAlone gates opens place group = (k : ℕ) → group ≡ Some k → IsAloneIn gates opens place k

-- an open gate has an open parent, if it has one, and is alone in its group
-- `KeepsGateRules` of `mari_market` says it of all gates at once; a test goes place by place.
pub record KeepsRulesAt (gates : List GateInfo) (opens : ℕ → Bool) (place : ℕ) : Type 0 where
  pub parent : opens place ≡ true → HasOpenParent opens (parent_of gates place)
  pub group : opens place ≡ true → IsAlone gates opens place (group_of gates place)
