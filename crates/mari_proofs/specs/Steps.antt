-- What one item does to a walk through a tree, where each leaf is to hold in a sense that is given.
use Rattle.std.specs.Prelude.{◌≡◌, ◌<◌, ◌≤◌, Bool, List, ◌++◌, length, Option, IfSome}
use Rattle.mari_market.specs.declared.market.Market.{Market}
use Rattle.mari_market.specs.declared.prefix.Prefix.{Prefix}
use Rattle.mari_market.specs.declared.certificate.Leaf.{Leaf as LeafRecord}
use Rattle.mari_market.specs.declared.certificate.TreeItem.{TreeItem}
use Rattle.mari_market.specs.declared.certificate.TreeItem.TheVariants.{Branch, Leaf}
use Rattle.mari_market.specs.Prefix.{word_of, children, IsFeasiblePrefix}
use Rattle.mari_proofs.specs.declared.trees.TreeStep.{TreeStep}
use Rattle.mari_proofs.specs.declared.trees.TreeStep.TheVariants.{On, BadShape, BadLeaf}
use Rattle.mari_gates.specs.Preorder.{waiting_after, left_at}

-- the item fits a prefix, and the next prefix or none is what is then left
abbrev pub FitsItem : Market → (List Bool → LeafRecord → Type 0) → Prefix → TreeItem → Option Prefix → Type 0
FitsItem m holds x (Leaf leaf) next = holds (word_of x) leaf × (left_at m.gates next ≡ waiting_after m.gates (word_of x))
FitsItem m holds x Branch next =
    (length (word_of x) < length m.gates) × (left_at m.gates next ≡ children m.gates (word_of x) ++ waiting_after m.gates (word_of x))

-- the item is a branch at a prefix that decides every gate
abbrev pub IsFullBranch : Market → Prefix → TreeItem → Type 0
IsFullBranch m x (Leaf leaf) = ⊥
IsFullBranch m x Branch = length m.gates ≤ length (word_of x)

-- the item is a leaf that doesn't hold
abbrev pub IsFalseLeaf : Market → (List Bool → LeafRecord → Type 0) → Prefix → TreeItem → Type 0
IsFalseLeaf m holds x (Leaf leaf) = holds (word_of x) leaf → ⊥
IsFalseLeaf m holds x Branch = ⊥

-- the answer to an item is right: what is next, a branch that has no gate to decide, or a leaf that doesn't hold
abbrev pub IsStep : Market → (List Bool → LeafRecord → Type 0) → Prefix → TreeItem → TreeStep → Type 0
IsStep m holds x item (On next) = FitsItem m holds x item next × IfSome next (IsFeasiblePrefix m)
IsStep m holds x item BadShape = IsFullBranch m x item
IsStep m holds x item BadLeaf = IsFalseLeaf m holds x item
