-- The check of an activation of the whole by a certificate tree for each island.
use Rattle.std.specs.Prelude.{◌≡◌, List}
use Rattle.std.specs.List.{AllZip}
use Rattle.mari_market.specs.declared.activation.Activation.{Activation}
use Rattle.mari_market.specs.declared.certificate.TreeItem.{TreeItem}
use Rattle.mari_market.specs.declared.market.Market.{Market}
use Rattle.mari_market.specs.Activation.{gate_word_of, welfare_of}
use Rattle.mari_market.specs.Optimal.{IsAdmissible}
use Rattle.mari_market.specs.Sums.{int_sum}
use Rattle.mari_market.specs.Tree.{TreeHoldsFor}
use Rattle.mari_islands.specs.declared.islands.Island.{Island}
use Rattle.mari_islands.specs.Part.{activation_in}

-- a tree holds at the welfare of the island's own activation, for its gate word
abbrev pub HoldsFor : Market → Activation → List TreeItem → Type 0
HoldsFor m a tree = TreeHoldsFor m (welfare_of m a) (gate_word_of m a) tree

-- the tree of an island holds for what the activation is there
abbrev pub HoldsInIsland : Activation → Island → List TreeItem → Type 0
HoldsInIsland a i tree = HoldsFor i.market (activation_in i a) tree

-- the activation is feasible, with some consistent prices, and there is one tree for each island, which holds for what
-- the activation is there
pub record AreCertified (m : Market) (islands : List Island) (a : Activation) (trees : List (List TreeItem)) : Type 0 where
  pub admissible : IsAdmissible m a
  pub hold : AllZip (HoldsInIsland a) islands trees

-- the welfare of the whole is the sum of that of the islands
abbrev pub IsSumOfIslands : Market → List Island → Activation → Type 0
IsSumOfIslands m islands a = welfare_of m a ≡ int_sum (λ (i : Island). welfare_of i.market (activation_in i a)) islands
