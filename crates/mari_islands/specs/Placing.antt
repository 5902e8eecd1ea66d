-- The quantities and flows of islands, as they are written to their places in the whole.
use Rattle.std.specs.Prelude.{◌≡◌, ℕ, ◌<◌, ℤ, pos, List, slice_index, Contains}
use Rattle.std.specs.List.{All, AllPairs, AllZip}
use Rattle.mari_market.specs.declared.activation.Activation.{Activation}
use Rattle.mari_market.specs.declared.clearing.Clearing.{Clearing}
use Rattle.mari_market.specs.Activation.{HasLengths}
use Rattle.mari_market.specs.Sums.{int_at}
use Rattle.mari_islands.specs.declared.islands.Island.{Island}
use Rattle.mari_islands.specs.Cleared.{IsApart}
use Rattle.mari_islands.specs.Part.{activation_in}

-- rising numbers below n
pub record AreNumbersOf (n : ℕ) (numbers : List ℕ) : Type 0 where
  pub below : All (λ k. k < n) numbers
  pub rising : AllPairs (λ j k. j < k) numbers

-- a clearing of an island has the lengths of its market
abbrev pub FitsIsland : Island → Clearing → Type 0
FitsIsland i c = HasLengths i.market c.activation

-- these quantities and flows of the whole
abbrev pub activation_of : List ℕ → List ℤ → Activation
activation_of mw flow = record { mw = mw; flow = flow }

-- the activation of the island stands at its places, and everything else is as it was
pub record IsPlaced (i : Island) (own : Activation) (old_mw : List ℕ) (old_flow : List ℤ) (mw : List ℕ) (flow : List ℤ) : Type 0 where
  pub placed : activation_in i (activation_of mw flow) ≡ own
  pub other_mw : (k : ℕ) → (Contains i.orders k → ⊥) → slice_index mw k ≡ slice_index old_mw k
  pub other_flow : (k : ℕ) → (Contains i.borders k → ⊥) → int_at flow k ≡ int_at old_flow k

-- the activations of the islands stand at their places, and nothing flows over a border of none of them
pub record ArePlaced (islands : List Island) (clearings : List Clearing) (mw : List ℕ) (flow : List ℤ) : Type 0 where
  pub parts : AllZip (λ (i : Island) (c : Clearing). activation_in i (activation_of mw flow) ≡ c.activation) islands clearings
  pub apart : (k : ℕ) → IsApart islands k → int_at flow k ≡ pos 0
