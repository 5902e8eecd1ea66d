-- A leaf of a growth that gets another state and stays a leaf.
use Rattle.std.proofs.Common.{◌≡◌, ◌≢◌, ◌⊎◌, inl, inr, Bool, true, false, ℕ, ◌+◌, ◌<◌, if◌then◌else◌, nat_lt, List, [], ◌∷◌, ◌++◌, length, Some, arith, sym, ap, subst, ◌∙◌}
use Rattle.std.specs.Prelude.{slice_get}
use Rattle.std.proofs.lemmas.Bool.{cases_eq}
use Rattle.mari_market.specs.declared.market.Market.{Market}
use Rattle.mari_market.specs.Prefix.{children}
use Rattle.mari_market.specs.SearchTree.{AreNodes}
use Rattle.mari_core.specs.declared.node.NodeState.{NodeState}
use Rattle.mari_core.specs.Nodes.{TreeNode, in_state, words_of, children_of}
use Rattle.mari_core.specs.Preorder.{IsWalk, HasPreorder}
use Rattle.mari_core.specs.Growth.{Grown, with_state, is_branched, IsGrowth, IsCrowded, HasChildren, HasParent, HoldsAtCutoff}
use Rattle.mari_core.proofs.Lists.{changed_same, changed_other, all_changed}
use Rattle.mari_core.proofs.Changes.{words-with_state, length-with_state, children_stay}

-- a walk rests on the children alone
pub same_walk : (nodes nodes' : List TreeNode) → ((x : ℕ) → children_of nodes' x ≡ children_of nodes x) → (waiting xs : List ℕ) → IsWalk nodes waiting xs → IsWalk nodes' waiting xs
same_walk nodes nodes' h (v ∷ waiting) (x ∷ xs) w =
    (w.0, subst (λ (ys : List ℕ). IsWalk nodes' (ys ++ waiting) xs) (sym (h x)) (same_walk nodes nodes' h (children_of nodes x ++ waiting) xs w.1))
same_walk nodes nodes' h _ _ w = grind arith

same_preorder : (nodes nodes' : List TreeNode) → ((x : ℕ) → children_of nodes' x ≡ children_of nodes x) → length nodes' ≡ length nodes → HasPreorder nodes → HasPreorder nodes'
same_preorder nodes nodes' h l p = record {
  numbers = p.numbers;
  preorder = record {
    walk = same_walk nodes nodes' h (0 ∷ []) p.numbers p.preorder.walk;
    once = λ x. p.preorder.once x ∙ ap (λ (n : ℕ). if nat_lt x n then 1 else 0) (sym l);
    all = p.preorder.all ∙ sym l;
  };
}

children_of_leaf : (m : Market) (words : List (List Bool)) (word : List Bool) (s : NodeState) → is_branched s ≡ false → HasChildren m words word s
children_of_leaf m words word s e = grind arith

-- a parent is branched, so it is another node than a leaf
pub parent_stays : (s : NodeState) (nodes : List TreeNode) (x : ℕ) (n : TreeNode) → slice_get nodes x ≡ Some n
    → is_branched n.state ≡ false → (word : List Bool) → (word ≡ []) ⊎ HasParent nodes word
    → (word ≡ []) ⊎ HasParent (with_state s nodes x) word
parent_stays s nodes x n e leaf word (inl root) = inl root
parent_stays s nodes x n e leaf word (inr p) =
    let other : p.number ≢ x = λ same. apart same in
    inr (record {
      number = p.number;
      node = p.node;
      last = p.last;
      there = changed_other (in_state s) nodes x p.number other ∙ p.there;
      child = p.child;
      branched_is = p.branched_is;
    })
  where
    apart : p.number ≡ x → ⊥
    apart same =
        let there : slice_get nodes x ≡ Some p.node = ap (λ (i : ℕ). slice_get nodes i) (sym same) ∙ p.there in
        let one : n ≡ p.node = cc in
        let no : is_branched p.node.state ≡ false = subst (λ (k : TreeNode). is_branched k.state ≡ false) one leaf in
        absurd (cc (p.branched_is))

-- where a leaf gets another state in which it stays a leaf, all is kept
pub leaf_kept : (s : NodeState) (g : Grown) (x : ℕ) (n : TreeNode) (full : Bool) → IsGrowth g
    → slice_get g.nodes x ≡ Some n → is_branched n.state ≡ false → is_branched s ≡ false
    → HoldsAtCutoff g.market n.word s
    → (full ≡ true → IsCrowded (record g { nodes = with_state s g.nodes x; full = full }))
    → IsGrowth (record g { nodes = with_state s g.nodes x; full = full })
leaf_kept s g x n full k e was is holds crowded = record {
  valid = k.valid;
  budget_is = k.budget_is;
  nodes_are = subst (λ (ws : List (List Bool)). AreNodes g.market ws) (sym same) k.nodes_are;
  root = ap (λ (ws : List (List Bool)). slice_get ws 0) same ∙ k.root;
  within_budget = omega (arith, length-with_state s g.nodes x, k.within_budget);
  have_children =
      all_changed (λ (j : TreeNode). HasChildren g.market (words_of g.nodes) j.word j.state)
      (λ (j : TreeNode). HasChildren g.market (words_of (with_state s g.nodes x)) j.word j.state) (in_state s) g.nodes x k.have_children
      (λ y j d there h. subst (λ (ws : List (List Bool)). HasChildren g.market ws j.word j.state) (sym same) h)
      (λ j there h. children_of_leaf g.market (words_of (with_state s g.nodes x)) j.word s is);
  have_parents =
      all_changed (λ (j : TreeNode). (j.word ≡ []) ⊎ HasParent g.nodes j.word)
      (λ (j : TreeNode). (j.word ≡ []) ⊎ HasParent (with_state s g.nodes x) j.word) (in_state s) g.nodes x k.have_parents
      (λ y j d there h. parent_stays s g.nodes x n e was j.word h)
      (λ j there h. parent_stays s g.nodes x n e was j.word h);
  hold = all_changed (λ (j : TreeNode). HoldsAtCutoff g.market j.word j.state) (λ (j : TreeNode). HoldsAtCutoff g.market j.word j.state) (in_state s) g.nodes x k.hold
      (λ y j d there h. h)
      (λ j there h. let one : n ≡ j = cc in subst (λ (i : TreeNode). HoldsAtCutoff g.market i.word s) one holds);
  preorder = same_preorder g.nodes (with_state s g.nodes x) (children_stay s g.nodes x n e was is) (length-with_state s g.nodes x) k.preorder;
  crowded = crowded;
}
  where
    same : words_of (with_state s g.nodes x) ≡ words_of g.nodes
    same = words-with_state s g.nodes x

-- a node that could branch, but for the budget, still could
pub crowded_stays : (s : NodeState) (g : Grown) (x : ℕ) (n : TreeNode) (full : Bool) → slice_get g.nodes x ≡ Some n
    → is_branched s ≡ false → IsCrowded g → IsCrowded (record g { nodes = with_state s g.nodes x; full = full })
crowded_stays s g x n full e is c = by_place (cases_eq c.number x)
  where
    more : g.budget < length (with_state s g.nodes x) + length (children g.market.gates c.node.word)
    more = omega (arith, length-with_state s g.nodes x, c.crowded.more)

    by_place : (c.number ≡ x) ⊎ (c.number ≡ x → ⊥) → IsCrowded (record g { nodes = with_state s g.nodes x; full = full })
    by_place (inl same) =
        let there : slice_get g.nodes x ≡ Some c.node = ap (λ (i : ℕ). slice_get g.nodes i) (sym same) ∙ c.there in
        record {
          number = x;
          node = in_state s c.node;
          there = changed_same (in_state s) g.nodes x c.node there;
          leaf = is;
          crowded = record { undecided = c.crowded.undecided; promising = c.crowded.promising; more = more };
        }
    by_place (inr other) = record {
      number = c.number;
      node = c.node;
      there = changed_other (in_state s) g.nodes x c.number other ∙ c.there;
      leaf = c.leaf;
      crowded = record { undecided = c.crowded.undecided; promising = c.crowded.promising; more = more };
    }
