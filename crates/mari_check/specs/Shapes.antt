-- The shape of a certificate tree.
use Rattle.std.specs.Prelude.{Bool, List, [], ◌∷◌, ⊤}
use Rattle.mari_market.specs.declared.certificate.Leaf.{Leaf}
use Rattle.mari_market.specs.declared.certificate.TreeItem.{TreeItem}
use Rattle.mari_market.specs.declared.market.Market.{Market}
use Rattle.mari_market.specs.Tree.{AreParts}

-- a leaf may say anything
abbrev pub AnyLeaf : List Bool → Leaf → Type 0
AnyLeaf word leaf = ⊤

-- the items are, in preorder, those of a whole tree of the market, whatever its leaves say: a branch stands only where
-- a gate is left to decide, its children's parts stand after it, and nothing is missing or left over
abbrev pub HasShape : Market → List TreeItem → Type 0
HasShape m items = AreParts m AnyLeaf ([] ∷ []) items
