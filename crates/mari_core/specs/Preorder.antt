-- The nodes of a search in preorder: after each node stand those below its closed child, and then those below its open
-- child.
use Rattle.std.specs.Prelude.{◌≡◌, ◌==◌, ℕ, ◌+◌, Bool, true, false, if◌then◌else◌, nat_lt, List, [], ◌∷◌, ◌++◌, length, map, Option, Some, None, ⊤, All}
use Rattle.mari_market.specs.declared.certificate.TreeItem.{TreeItem}
use Rattle.mari_market.specs.declared.certificate.TreeItem.TheVariants.{Branch as BranchItem, Leaf as LeafItem}
use Rattle.mari_market.specs.declared.clearing.PartItem.{PartItem}
use Rattle.mari_market.specs.declared.clearing.PartItem.TheVariants.{Branch as BranchPart, Closed as ClosedPart, Pending}
use Rattle.mari_core.specs.declared.node.NodeState.{NodeState}
use Rattle.mari_core.specs.declared.node.NodeState.TheVariants.{Untaken, Taken, Branched, Closed}
use Rattle.mari_core.specs.declared.event.FinishFault.{FinishFault}
use Rattle.mari_core.specs.declared.event.FinishFault.TheVariants.{NotClosed, Memory}
use Rattle.mari_core.specs.Nodes.{TreeNode, state_at, children_of}

-- a walk in preorder from the numbers that wait: each number is the first that waits, and in its place its children
-- wait then
abbrev pub IsWalk : List TreeNode → List ℕ → List ℕ → Type 0
IsWalk nodes [] [] = ⊤
IsWalk nodes [] (x ∷ xs) = ⊥
IsWalk nodes (w ∷ waiting) [] = ⊥
IsWalk nodes (w ∷ waiting) (x ∷ xs) = (w ≡ x) × IsWalk nodes (children_of nodes x ++ waiting) xs

-- how often the number occurs
-- Counted from the list's head, as one node more is read, where `count_by` of the kit counts from its end.
abbrev pub occurs : ℕ → List ℕ → ℕ
occurs x [] = 0
occurs x (y ∷ ys) = (if y == x then 1 else 0) + occurs x ys

-- the numbers of all nodes in preorder, each once
pub record IsPreorder (nodes : List TreeNode) (numbers : List ℕ) : Type 0 where
  pub walk : IsWalk nodes (0 ∷ []) numbers
  pub once : (x : ℕ) → occurs x numbers ≡ (if nat_lt x (length nodes) then 1 else 0)
  pub all : length numbers ≡ length nodes

-- the nodes have a preorder
pub record HasPreorder (nodes : List TreeNode) : Type 0 where
  pub numbers : List ℕ
  pub preorder : IsPreorder nodes numbers

-- whether the node is branched or closed
abbrev pub is_done : Option NodeState → Bool
is_done None = false
is_done (Some Untaken) = false
is_done (Some (Taken k)) = false
is_done (Some (Branched closed opened)) = true
is_done (Some (Closed leaf cutoff)) = true

-- the item of a part of the search tree for a node in this state
abbrev pub part_item : Option NodeState → PartItem
part_item None = Pending
part_item (Some Untaken) = Pending
part_item (Some (Taken k)) = Pending
part_item (Some (Branched closed opened)) = BranchPart
part_item (Some (Closed leaf cutoff)) = ClosedPart

-- the item of a certificate tree for a node that is branched or closed
abbrev pub tree_item : Option NodeState → TreeItem
tree_item None = BranchItem
tree_item (Some Untaken) = BranchItem
tree_item (Some (Taken k)) = BranchItem
tree_item (Some (Branched closed opened)) = BranchItem
tree_item (Some (Closed leaf cutoff)) = LeafItem leaf

-- the item of the part of the search tree in which a tree's item stands
abbrev pub shape_of : TreeItem → PartItem
shape_of BranchItem = BranchPart
shape_of (LeafItem leaf) = ClosedPart

-- the items are those of the nodes, in preorder
pub record IsPart (nodes : List TreeNode) (items : List PartItem) : Type 0 where
  pub numbers : List ℕ
  pub preorder : IsPreorder nodes numbers
  pub items_are : items ≡ map (λ x. part_item (state_at nodes x)) numbers

-- every node is branched or closed, and the items are theirs, in preorder
pub record IsTree (nodes : List TreeNode) (items : List TreeItem) : Type 0 where
  pub numbers : List ℕ
  pub preorder : IsPreorder nodes numbers
  pub done : All (λ x. is_done (state_at nodes x) ≡ true) numbers
  pub items_are : items ≡ map (λ x. tree_item (state_at nodes x)) numbers

-- the node is, in preorder, the first leaf that isn't closed
pub record IsFirstOpen (nodes : List TreeNode) (x : ℕ) : Type 0 where
  pub before : List ℕ
  pub rest : List ℕ
  pub preorder : IsPreorder nodes (before ++ x ∷ rest)
  pub done : All (λ y. is_done (state_at nodes y) ≡ true) before
  pub waits : is_done (state_at nodes x) ≡ false

-- why a tree can't be finished; that memory ran out may always be answered
abbrev pub IsOpenFault : List TreeNode → FinishFault → Type 0
IsOpenFault nodes (NotClosed x) = IsFirstOpen nodes x
IsOpenFault nodes Memory = ⊤
