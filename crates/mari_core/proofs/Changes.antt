-- What changes where a node gets another state.
use Rattle.std.proofs.Common.{◌≡◌, ◌≢◌, ◌⊎◌, inl, inr, false, ℕ, List, [], length, Option, Some, refl, sym, ap, ◌∙◌, arith}
use Rattle.std.specs.Prelude.{slice_get}
use Rattle.std.specs.Option.{option_map}
use Rattle.std.proofs.lemmas.Bool.{cases_eq}
use Rattle.mari_core.specs.declared.node.NodeState.{NodeState}
use Rattle.mari_core.specs.Nodes.{TreeNode, in_state, words_of, word_in, word_at, state_at, child_numbers, numbers_below, children_of}
use Rattle.mari_core.specs.Growth.{with_state, is_branched}
use Rattle.mari_core.proofs.Lists.{length-changed, map-changed, changed_same, changed_other}

pub words-with_state : (s : NodeState) (nodes : List TreeNode) (x : ℕ) → words_of (with_state s nodes x) ≡ words_of nodes
words-with_state s nodes x = map-changed (λ (n : TreeNode). n.word) (in_state s) (λ n. refl) nodes x

pub length-with_state : (s : NodeState) (nodes : List TreeNode) (x : ℕ) → length (with_state s nodes x) ≡ length nodes
length-with_state s nodes x = length-changed (in_state s) nodes x

-- the node that a state is of
pub record IsAt (nodes : List TreeNode) (x : ℕ) (s : NodeState) : Type 0 where
  pub node : TreeNode
  pub there : slice_get nodes x ≡ Some node
  pub state_is : node.state ≡ s

pub node_at : (nodes : List TreeNode) (x : ℕ) (s : NodeState) → state_at nodes x ≡ Some s → IsAt nodes x s
node_at nodes x s e = by_node (slice_get nodes x) refl e
  where
    by_node : (o : Option TreeNode) → slice_get nodes x ≡ o → option_map (λ (n : TreeNode). n.state) o ≡ Some s → IsAt nodes x s
    by_node o same h = grind arith

pub state_of_node : (nodes : List TreeNode) (x : ℕ) (n : TreeNode) → slice_get nodes x ≡ Some n → state_at nodes x ≡ Some n.state
state_of_node nodes x n e = ap (λ (o : Option TreeNode). option_map (λ (k : TreeNode). k.state) o) e

pub word_of_node : (nodes : List TreeNode) (x : ℕ) (n : TreeNode) → slice_get nodes x ≡ Some n → word_at nodes x ≡ n.word
word_of_node nodes x n e = ap word_in e

pub state_same : (s : NodeState) (nodes : List TreeNode) (x : ℕ) (n : TreeNode) → slice_get nodes x ≡ Some n → state_at (with_state s nodes x) x ≡ Some s
state_same s nodes x n e = ap (λ (o : Option TreeNode). option_map (λ (k : TreeNode). k.state) o) (changed_same (in_state s) nodes x n e)

pub state_other : (s : NodeState) (nodes : List TreeNode) (x y : ℕ) → y ≢ x → state_at (with_state s nodes x) y ≡ state_at nodes y
state_other s nodes x y n = ap (λ (o : Option TreeNode). option_map (λ (k : TreeNode). k.state) o) (changed_other (in_state s) nodes x y n)

pub leaf_has_none : (s : NodeState) → is_branched s ≡ false → child_numbers s ≡ []
leaf_has_none s e = grind arith

-- a leaf that stays a leaf leaves all children as they were
pub children_stay : (s : NodeState) (nodes : List TreeNode) (x : ℕ) (n : TreeNode) → slice_get nodes x ≡ Some n
    → is_branched n.state ≡ false → is_branched s ≡ false → (y : ℕ)
    → children_of (with_state s nodes x) y ≡ children_of nodes y
children_stay s nodes x n e was is y = by_place (cases_eq y x)
  where
    by_place : (y ≡ x) ⊎ (y ≡ x → ⊥) → children_of (with_state s nodes x) y ≡ children_of nodes y
    by_place (inl same) =
        ap (children_of (with_state s nodes x)) same
        ∙ ap numbers_below (state_same s nodes x n e)
        ∙ leaf_has_none s is
        ∙ sym (leaf_has_none n.state was)
        ∙ sym (ap numbers_below (state_of_node nodes x n e))
        ∙ sym (ap (children_of nodes) same)
    by_place (inr other) = ap numbers_below (state_other s nodes x y other)
