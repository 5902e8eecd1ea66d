-- Certificates of the nodes in preorder.
use Rattle.std.proofs.Common.{◌≡◌, true, false, ℕ, suc, ◌+◌, ◌<◌, ◌≤◌, List, [], ◌∷◌, ◌++◌, length, map, take, drop, get_or, Some, arith, sym, ap, subst, ◌∙◌}
use Rattle.std.specs.List.{All}
use Rattle.std.proofs.lemmas.List.{take_more, take_all, map_more}
use Rattle.std.proofs.lemmas.List.Elements.{All-append, All-cons, All-nil}
use Rattle.mari_market.specs.declared.certificate.TreeItem.{TreeItem}
use Rattle.mari_core.specs.declared.node.NodeState.{NodeState}
use Rattle.mari_core.specs.Nodes.{TreeNode, state_at}
use Rattle.mari_core.specs.Preorder.{IsPreorder, IsTree, IsFirstOpen, is_done, tree_item}
use Rattle.mari_core.proofs.Walks.{map_all}

-- what was visited is done and in the items
pub record Visited (nodes : List TreeNode) (items : List TreeItem) (visited : List ℕ) : Type 0 where
  pub items_are : items ≡ map (λ (x : ℕ). tree_item (state_at nodes x)) visited
  pub done : All (λ (x : ℕ). is_done (state_at nodes x) ≡ true) visited

pub none_visited : (nodes : List TreeNode) (items : List TreeItem) (ns : List ℕ) → items ≡ [] → Visited nodes items (take 0 ns)
none_visited nodes items ns e = record { items_are = e; done = All-nil (λ (x : ℕ). is_done (state_at nodes x) ≡ true) }

-- one number more is visited
pub visited_more : (nodes : List TreeNode) (items items' : List TreeItem) (ns : List ℕ) (i d : ℕ) (s : NodeState) (item : TreeItem)
    → Visited nodes items (take i ns) → i < length ns → state_at nodes (get_or ns i d) ≡ Some s
    → is_done (Some s) ≡ true → item ≡ tree_item (Some s) → items' ≡ items ++ item ∷ []
    → Visited nodes items' (take (i + 1) ns)
visited_more nodes items items' ns i d s item v l state done is pushed = record {
  items_are = pushed ∙ ap (λ (ts : List TreeItem). ts ++ item ∷ []) v.items_are
      ∙ ap (λ (t : TreeItem). map (λ (x : ℕ). tree_item (state_at nodes x)) (take i ns) ++ t ∷ []) (is ∙ ap tree_item (sym state))
      ∙ sym (map_more (λ (x : ℕ). tree_item (state_at nodes x)) ns i d l);
  done = subst (All (λ (x : ℕ). is_done (state_at nodes x) ≡ true)) (sym (take_more ns i d l))
      (All-append (λ (x : ℕ). is_done (state_at nodes x) ≡ true) (take i ns) (get_or ns i d ∷ []) v.done
      (All-cons (λ (x : ℕ). is_done (state_at nodes x) ≡ true) (get_or ns i d) [] (ap is_done state ∙ done) (All-nil (λ (x : ℕ). is_done (state_at nodes x) ≡ true))));
}

-- all were visited
pub all_visited : (nodes : List TreeNode) (items : List TreeItem) (ns : List ℕ) (i : ℕ) → Visited nodes items (take i ns) → IsPreorder nodes ns → length ns ≤ i → IsTree nodes items
all_visited nodes items ns i v p l = record {
  numbers = ns;
  preorder = p;
  done = subst (All (λ (x : ℕ). is_done (state_at nodes x) ≡ true)) (take_all i ns l) v.done;
  items_are = v.items_are ∙ map_all (λ (x : ℕ). tree_item (state_at nodes x)) ns i l;
}

split_at : (ns : List ℕ) (i d : ℕ) → i < length ns → ns ≡ take i ns ++ get_or ns i d ∷ drop (suc i) ns
split_at (n ∷ ns) (suc i) d l = ap (λ (ms : List ℕ). n ∷ ms) (split_at ns i d (omega arith))
split_at _ _ d l = grind arith

-- the next is the first leaf that isn't closed
pub first_open : (nodes : List TreeNode) (items : List TreeItem) (ns : List ℕ) (i d : ℕ) (s : NodeState)
    → Visited nodes items (take i ns) → IsPreorder nodes ns → i < length ns → state_at nodes (get_or ns i d) ≡ Some s
    → is_done (Some s) ≡ false → IsFirstOpen nodes (get_or ns i d)
first_open nodes items ns i d s v p l state waits = record {
  before = take i ns;
  rest = drop (suc i) ns;
  preorder = subst (IsPreorder nodes) (split_at ns i d l) p;
  done = v.done;
  waits = ap is_done state ∙ waits;
}
