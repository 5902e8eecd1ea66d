-- Islands that are cleared one by one, and the activation that they are joined to.
use Rattle.std.specs.Prelude.{◌≡◌, ℕ, ◌<◌, pos, List, length, Contains, ⊤, slice_get, take}
use Rattle.std.specs.List.{All, AllZip, sum_by}
use Rattle.std.specs.Option.{IsSomeAnd}
use Rattle.mari_market.specs.declared.activation.Activation.{Activation}
use Rattle.mari_market.specs.declared.clearing.Clearing.{Clearing}
use Rattle.mari_market.specs.declared.clearing.Spent.{Spent as SpentRecord}
use Rattle.mari_market.specs.declared.market.Market.{Market}
use Rattle.mari_market.specs.Activation.{HasLengths, welfare_of}
use Rattle.mari_market.specs.Clearing.{IsClearing, IsSpent}
use Rattle.mari_market.specs.First.{IsFirst}
use Rattle.mari_market.specs.Sums.{int_at}
use Rattle.mari_islands.specs.declared.clear.IslandsCleared.{IslandsCleared}
use Rattle.mari_islands.specs.declared.clear.IslandsCleared.TheVariants.{Published, Spent, Memory}
use Rattle.mari_islands.specs.declared.islands.Island.{Island}
use Rattle.mari_islands.specs.declared.join.Joined.{Joined}
use Rattle.mari_islands.specs.Part.{activation_in}

-- a border of none of the islands
abbrev pub IsApart : List Island → ℕ → Type 0
IsApart islands k = All (λ (i : Island). Contains i.borders k → ⊥) islands

-- the activations of the islands, one each, are what this one of the whole is in them, and nothing flows over a border
-- of no island
pub record IsJoinedOf (m : Market) (islands : List Island) (clearings : List Clearing) (a : Activation) : Type 0 where
  pub lengths : HasLengths m a
  pub parts : AllZip (λ (i : Island) (c : Clearing). activation_in i a ≡ c.activation) islands clearings
  pub apart : (k : ℕ) → k < length m.borders → IsApart islands k → int_at a.flow k ≡ pos 0

-- an island is cleared within the budget
abbrev pub IsClearedBy : ℕ → Island → Clearing → Type 0
IsClearedBy budget i c = IsClearing i.market budget c

-- each island is cleared within the budget, and the clearings are joined
pub record ArePublished (m : Market) (islands : List Island) (budget : ℕ) (joined : Joined) (clearings : List Clearing) : Type 0 where
  pub cleared : AllZip (IsClearedBy budget) islands clearings
  pub together : IsJoinedOf m islands clearings joined.activation
  pub sum : joined.welfare ≡ sum_by (λ (c : Clearing). c.welfare) clearings

-- an island may be cleared within the budget
abbrev pub IsClearable : ℕ → Island → Type 0
IsClearable budget i = (c : Clearing) × IsClearedBy budget i c

-- each island before this one is cleared within the budget, and this one's search tree is larger than that
pub record IsIslandSpent (islands : List Island) (budget k : ℕ) (part : SpentRecord) : Type 0 where
  pub earlier : All (IsClearable budget) (take k islands)
  pub spent : IsSomeAnd (slice_get islands k) (λ (i : Island). IsSpent i.market budget part)

-- what may be answered for the islands of a market and a budget; that memory ran out may always be answered
abbrev pub ClearsIslands : Market → List Island → ℕ → IslandsCleared → Type 0
ClearsIslands m islands budget (Published joined clearings) = ArePublished m islands budget joined clearings
ClearsIslands m islands budget (Spent island spent) = IsIslandSpent islands budget island spent
ClearsIslands m islands budget Memory = ⊤

-- a clearing has the first activation of an island, and its welfare
pub record IsFirstOfIsland (i : Island) (c : Clearing) : Type 0 where
  pub first : IsFirst i.market c.activation
  pub welfare : welfare_of i.market c.activation ≡ pos c.welfare

-- the first activation of the whole market, and its welfare
pub record IsFirstOfWhole (m : Market) (joined : Joined) : Type 0 where
  pub first : IsFirst m joined.activation
  pub welfare : welfare_of m joined.activation ≡ pos joined.welfare

-- where the islands are published, so is the whole
abbrev pub OnPublished : IslandsCleared → (Joined → Type 0) → Type 0
OnPublished (Published joined clearings) P = P joined
OnPublished (Spent island spent) P = ⊤
OnPublished Memory P = ⊤
