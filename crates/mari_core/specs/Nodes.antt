-- The nodes of a search, and what is known of each.
use Rattle.std.specs.Prelude.{ℕ, ◌+◌, Bool, List, [], ◌∷◌, map, Option, Some, None, slice_get, zero, suc}
use Rattle.std.specs.Option.{option_map, option_to_list}
use Rattle.mari_core.specs.declared.node.NodeState.{NodeState}
use Rattle.mari_core.specs.declared.node.NodeState.TheVariants.{Untaken, Taken, Branched, Closed}

-- a node: the gates that it decides, as a word, and its state
pub record TreeNode : Type 0 where
  pub word : List Bool
  pub state : NodeState

-- a node as it is made
abbrev pub new_node : List Bool → TreeNode
new_node word = record { word = word; state = Untaken }

-- the node in another state
abbrev pub in_state : NodeState → TreeNode → TreeNode
in_state state n = record { word = n.word; state = state }

-- the list with one of its items changed
abbrev pub changed : {X : Type 0} → (X → X) → List X → ℕ → List X
changed change [] k = []
changed change (x ∷ xs) zero = change x ∷ xs
changed change (x ∷ xs) (suc k) = x ∷ changed change xs k

-- the words of the nodes
abbrev pub words_of : List TreeNode → List (List Bool)
words_of nodes = map (λ n. n.word) nodes

-- the word of a node, if there is one
abbrev pub word_in : Option TreeNode → List Bool
word_in None = []
word_in (Some n) = n.word

-- the word of the node of this number
abbrev pub word_at : List TreeNode → ℕ → List Bool
word_at nodes x = word_in (slice_get nodes x)

-- the state of the node of this number, if there is one
abbrev pub state_at : List TreeNode → ℕ → Option NodeState
state_at nodes x = option_map (λ n. n.state) (slice_get nodes x)

-- the numbers of the children that a state names
abbrev pub child_numbers : NodeState → List ℕ
child_numbers Untaken = []
child_numbers (Taken k) = []
child_numbers (Branched closed opened) = closed ∷ option_to_list opened
child_numbers (Closed leaf cutoff) = []

-- the numbers of a node's children, as far as they are nodes
abbrev pub numbers_below : Option NodeState → List ℕ
numbers_below None = []
numbers_below (Some state) = child_numbers state

-- the children of the node of this number, as far as they are nodes
abbrev pub children_of : List TreeNode → ℕ → List ℕ
children_of nodes x = numbers_below (state_at nodes x)

-- the state of a node whose children are made with this first number
abbrev pub branch_of : ℕ → List (List Bool) → NodeState
branch_of first [] = Branched first None
branch_of first (closed ∷ []) = Branched first None
branch_of first (closed ∷ opened ∷ rest) = Branched first (Some (first + 1))
