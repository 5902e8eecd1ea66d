-- A walk through the nodes in preorder, with a stack of the numbers that wait.
use Rattle.std.proofs.Common.{◌≡◌, ℕ, suc, ◌<◌, ◌≤◌, if◌then◌else◌, nat_lt, List, [], ◌∷◌, ◌++◌, length, map, take, get_or, reverse, Option, Some, arith, sym, ap, subst, ◌∙◌, append_assoc}
use Rattle.std.proofs.lemmas.Bool.Decides.{nat_tests}
use Rattle.std.proofs.lemmas.List.{reverse-append, reverse-reverse, take_all}
use Rattle.mari_core.specs.declared.node.NodeState.{NodeState}
use Rattle.mari_core.specs.Nodes.{TreeNode, state_at, child_numbers, numbers_below, children_of}
use Rattle.mari_core.specs.Preorder.{IsWalk, IsPreorder, occurs}
use Rattle.mari_core.proofs.Insertions.{occurs-append, occurs_here}

-- where a walk is: what it visited, with what is left to visit from the numbers that wait, is a preorder
pub record AtWalk (nodes : List TreeNode) (waiting order : List ℕ) : Type 0 where
  pub rest : List ℕ
  pub walk : IsWalk nodes (reverse waiting) rest
  pub whole : IsPreorder nodes (order ++ rest)

-- a walk at its next number
pub record AtNumber (nodes : List TreeNode) (front order : List ℕ) (x : ℕ) : Type 0 where
  pub rest : List ℕ
  pub walk : IsWalk nodes (children_of nodes x ++ reverse front) rest
  pub whole : IsPreorder nodes (order ++ x ∷ rest)

pub next_number : (nodes : List TreeNode) (waiting front order : List ℕ) (x : ℕ) → AtWalk nodes waiting order → waiting ≡ front ++ x ∷ [] → AtNumber nodes front order x
next_number nodes waiting front order x a e = by_rest a.rest (subst (λ (w : List ℕ). IsWalk nodes w a.rest) (ap reverse e ∙ reverse-append front (x ∷ [])) a.walk) a.whole
  where
    by_rest : (rest : List ℕ) → IsWalk nodes (x ∷ reverse front) rest → IsPreorder nodes (order ++ rest) → AtNumber nodes front order x
    by_rest [] w p = absurd w
    by_rest (y ∷ ys) w p = record {
      rest = ys;
      walk = subst (λ (z : ℕ). IsWalk nodes (children_of nodes z ++ reverse front) ys) (sym w.0) w.1;
      whole = subst (λ (z : ℕ). IsPreorder nodes (order ++ z ∷ ys)) (sym w.0) p;
    }

test_lt : (x n k : ℕ) → 1 ≤ k → k ≡ (if nat_lt x n then 1 else 0) → x < n
test_lt x n k l e = grind (arith, nat_tests)

-- it is a node's
pub number_within : (nodes : List TreeNode) (before rest : List ℕ) (x : ℕ) → IsPreorder nodes (before ++ x ∷ rest) → x < length nodes
number_within nodes before rest x p =
    test_lt x (length nodes) (occurs x (before ++ x ∷ rest)) (omega (arith, occurs-append x before (x ∷ rest), occurs_here x rest)) (p.once x)

-- then its children wait
pub walk_goes : (nodes : List TreeNode) (front order : List ℕ) (x : ℕ) (s : NodeState) → AtNumber nodes front order x
    → state_at nodes x ≡ Some s → AtWalk nodes (front ++ reverse (child_numbers s)) (order ++ x ∷ [])
walk_goes nodes front order x s a e = record {
  rest = a.rest;
  walk = subst (λ (w : List ℕ). IsWalk nodes w a.rest)
      (ap (λ (o : Option NodeState). numbers_below o ++ reverse front) e ∙ ap (λ (w : List ℕ). w ++ reverse front) (sym (reverse-reverse (child_numbers s)))
      ∙ sym (reverse-append front (reverse (child_numbers s)))) a.walk;
  whole = subst (IsPreorder nodes) (sym (append_assoc order (x ∷ []) a.rest)) a.whole;
}

-- ---- the items of a preorder

pub occurs_at : (ns : List ℕ) (i d : ℕ) → i < length ns → 1 ≤ occurs (get_or ns i d) ns
occurs_at (n ∷ ns) (suc i) d l = omega (arith, occurs_at ns i d (omega arith))
occurs_at _ _ d l = grind arith

pub item_within : (nodes : List TreeNode) (ns : List ℕ) (i d : ℕ) → IsPreorder nodes ns → i < length ns → get_or ns i d < length nodes
item_within nodes ns i d p l = test_lt (get_or ns i d) (length nodes) (occurs (get_or ns i d) ns) (occurs_at ns i d l) (p.once (get_or ns i d))

pub map_all : {X : Type 0} (f : ℕ → X) (ns : List ℕ) (i : ℕ) → length ns ≤ i → map f (take i ns) ≡ map f ns
map_all f ns i l = ap (map f) (take_all i ns l)
