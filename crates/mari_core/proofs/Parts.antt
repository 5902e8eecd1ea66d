-- What the nodes in preorder are: a part of the search tree, and a certificate tree where each is done.
use Rattle.std.proofs.Common.{◌≡◌, inl, inr, Bool, true, false, ℕ, suc, ◌<◌, ◌≤◌, pos, List, [], ◌∷◌, ◌++◌, length, map, get_or, nat_lt, if◌then◌else◌, Option, Some, arith, refl, sym, ap, subst, ◌∙◌}
use Rattle.std.specs.Prelude.{slice_get, Contains}
use Rattle.std.specs.List.{All}
use Rattle.std.proofs.lemmas.Int.{ints}
use Rattle.std.proofs.lemmas.Bool.{cases_eq}
use Rattle.std.proofs.lemmas.Bool.Decides.{nat_tests}
use Rattle.std.proofs.lemmas.List.{map-append, length-map}
use Rattle.std.proofs.lemmas.List.Elements.{All-head, All-tail}
use Rattle.std.proofs.lemmas.Option.{slice_get-get_or, slice_get_within}
use Rattle.mari_market.specs.declared.market.Market.{Market}
use Rattle.mari_market.specs.declared.certificate.TreeItem.{TreeItem}
use Rattle.mari_market.specs.declared.certificate.TreeItem.TheVariants.{Leaf}
use Rattle.mari_market.specs.declared.clearing.PartItem.{PartItem}
use Rattle.mari_market.specs.Clearing.{ArePartsOfSearch, leaves_of, IsSpent}
use Rattle.mari_market.specs.Prefix.{children}
use Rattle.mari_market.specs.SearchTree.{IsNode}
use Rattle.mari_market.specs.Tree.{AreParts, LeafHolds, TreeHolds}
use Rattle.mari_market.proofs.Search.{parts_rise}
use Rattle.mari_core.specs.declared.node.NodeState.{NodeState}
use Rattle.mari_core.specs.declared.node.NodeState.TheVariants.{Untaken, Branched, Closed}
use Rattle.mari_core.specs.Nodes.{TreeNode, words_of, word_at, state_at, child_numbers, numbers_below, children_of}
use Rattle.mari_core.specs.Preorder.{IsWalk, IsPreorder, IsPart, IsTree, occurs, is_done, part_item, tree_item, shape_of}
use Rattle.mari_core.specs.Growth.{Grown, IsGrowth, IsCrowded, HasChildren, HoldsAtCutoff, is_branched, AreCutAt, IsCutAt}
use Rattle.mari_core.proofs.Lists.{all_get}
use Rattle.mari_core.proofs.Changes.{word_of_node, state_of_node}
use Rattle.mari_core.proofs.Children.{word_of_number}
use Rattle.mari_core.proofs.Insertions.{occurs_later}
use Rattle.mari_core.proofs.Seeds.{crowded_is_larger}
use Rattle.mari_core.proofs.Walks.{item_within}

-- the words of these numbers
abbrev words_at : List TreeNode → List ℕ → List (List Bool)
words_at nodes ns = map (word_at nodes) ns

read_word : (nodes : List TreeNode) (x : ℕ) (w : List Bool) → slice_get (words_of nodes) x ≡ Some w → word_at nodes x ≡ w
read_word (n ∷ nodes) (suc x) w e = read_word nodes x w e
read_word _ _ w e = grind arith

read_words : (nodes : List TreeNode) (ns : List ℕ) (ws : List (List Bool)) → map (λ x. slice_get (words_of nodes) x) ns ≡ map (λ w. Some w) ws → words_at nodes ns ≡ ws
read_words nodes [] [] e = refl
read_words nodes (n ∷ ns) (w ∷ ws) e =
    let here : slice_get (words_of nodes) n ≡ Some w = cc in
    let rest : map (λ x. slice_get (words_of nodes) x) ns ≡ map (λ v. Some v) ws = cc in
    let one : word_at nodes n ≡ w = read_word nodes n w here in
    let more : words_at nodes ns ≡ ws = read_words nodes ns ws rest in
    cc
read_words nodes _ _ e = grind arith

-- the node of a number
record NodeAt (g : Grown) (x : ℕ) : Type 0 where
  pub node : TreeNode
  pub there : slice_get g.nodes x ≡ Some node
  pub is_node : IsNode g.market (word_at g.nodes x)
  pub state : state_at g.nodes x ≡ Some node.state
  pub word : word_at g.nodes x ≡ node.word
  pub children : HasChildren g.market (words_of g.nodes) (word_at g.nodes x) node.state
  pub holds : HoldsAtCutoff g.market (word_at g.nodes x) node.state

node_of : (g : Grown) (x : ℕ) → IsGrowth g → x < length g.nodes → NodeAt g x
node_of g x k l =
    let n : TreeNode = get_or g.nodes x (record { word = []; state = Untaken }) in
    let there : slice_get g.nodes x ≡ Some n = slice_get-get_or g.nodes x (record { word = []; state = Untaken }) l in
    let word : word_at g.nodes x ≡ n.word = word_of_node g.nodes x n there in
    record {
      node = n;
      there = there;
      is_node = subst (IsNode g.market) (sym word) (all_get (IsNode g.market) (words_of g.nodes) x n.word k.nodes_are.nodes (word_of_number g.nodes x n there));
      state = state_of_node g.nodes x n there;
      word = word;
      children = subst (λ (w : List Bool). HasChildren g.market (words_of g.nodes) w n.state) (sym word)
          (all_get (λ (j : TreeNode). HasChildren g.market (words_of g.nodes) j.word j.state) g.nodes x n k.have_children there);
      holds = subst (λ (w : List Bool). HoldsAtCutoff g.market w n.state) (sym word) (all_get (λ (j : TreeNode). HoldsAtCutoff g.market j.word j.state) g.nodes x n k.hold there);
    }

-- each number is a node's
abbrev AreWithin : List TreeNode → List ℕ → Type 0
AreWithin nodes ns = All (λ x. x < length nodes) ns

are_within : (nodes : List TreeNode) (ns : List ℕ) → IsPreorder nodes ns → AreWithin nodes ns
are_within nodes ns p = λ i d l. item_within nodes ns i d p l

-- ---- a part of the search tree

part_step : (m : Market) (nodes : List TreeNode) (s : NodeState) (word : List Bool) (words : List (List Bool)) (items : List PartItem)
    → IsNode m word → HasChildren m (words_of nodes) word s
    → ArePartsOfSearch m (words_at nodes (child_numbers s) ++ words) items
    → ArePartsOfSearch m (word ∷ words) (part_item (Some s) ∷ items)
part_step m nodes (Branched closed opened) word words items n h a =
    (n, h.0, subst (λ (ws : List (List Bool)). ArePartsOfSearch m (ws ++ words) items) (read_words nodes (child_numbers (Branched closed opened)) (children m.gates word) h.1) a)
part_step m nodes _ word words items n h a = (n, a)

walk_parts : (g : Grown) → IsGrowth g → (waiting ns : List ℕ) → AreWithin g.nodes ns → IsWalk g.nodes waiting ns
    → ArePartsOfSearch g.market (words_at g.nodes waiting) (map (λ x. part_item (state_at g.nodes x)) ns)
walk_parts g k [] [] within w = tt
walk_parts g k [] (x ∷ xs) within w = absurd w
walk_parts g k (v ∷ waiting) [] within w = absurd w
walk_parts g k (v ∷ waiting) (x ∷ xs) within w =
    let at : NodeAt g x = node_of g x k (All-head (λ y. y < length g.nodes) x xs within) in
    let rest : ArePartsOfSearch g.market (words_at g.nodes (children_of g.nodes x ++ waiting)) (map (λ y. part_item (state_at g.nodes y)) xs) =
    walk_parts g k (children_of g.nodes x ++ waiting) xs (All-tail (λ y. y < length g.nodes) x xs within) w.1 in
    let split : ArePartsOfSearch g.market (words_at g.nodes (child_numbers at.node.state) ++ words_at g.nodes waiting) (map (λ y. part_item (state_at g.nodes y)) xs) =
    subst (λ (ws : List (List Bool)). ArePartsOfSearch g.market ws (map (λ y. part_item (state_at g.nodes y)) xs))
    (map-append (word_at g.nodes) (children_of g.nodes x) waiting ∙ ap (λ (o : Option NodeState). words_at g.nodes (numbers_below o) ++ words_at g.nodes waiting) at.state) rest in
    subst (λ (y : ℕ). ArePartsOfSearch g.market (word_at g.nodes y ∷ words_at g.nodes waiting) (map (λ z. part_item (state_at g.nodes z)) (x ∷ xs))) (sym w.0)
    (subst (λ (o : Option NodeState). ArePartsOfSearch g.market (word_at g.nodes x ∷ words_at g.nodes waiting) (part_item o ∷ map (λ z. part_item (state_at g.nodes z)) xs)) (sym at.state)
    (part_step g.market g.nodes at.node.state (word_at g.nodes x) (words_at g.nodes waiting) (map (λ y. part_item (state_at g.nodes y)) xs) at.is_node at.children split))

-- the empty word is that of the first node
root_word : (g : Grown) → IsGrowth g → words_at g.nodes (0 ∷ []) ≡ [] ∷ []
root_word g k = ap (λ (w : List Bool). w ∷ []) (read_word g.nodes 0 [] k.root)

-- the nodes in preorder are a part of the search tree
pub part_is_of_search : (g : Grown) (items : List PartItem) → IsGrowth g → IsPart g.nodes items → ArePartsOfSearch g.market ([] ∷ []) items
part_is_of_search g items k p =
    subst (λ (is : List PartItem). ArePartsOfSearch g.market ([] ∷ []) is) (sym p.items_are)
    (subst (λ (ws : List (List Bool)). ArePartsOfSearch g.market ws (map (λ x. part_item (state_at g.nodes x)) p.numbers)) (root_word g k)
    (walk_parts g k (0 ∷ []) p.numbers (are_within g.nodes p.numbers p.preorder) p.preorder.walk))

pub part_has_all : (nodes : List TreeNode) (items : List PartItem) → IsPart nodes items → length items ≡ length nodes
part_has_all nodes items p = ap length p.items_are ∙ length-map p.numbers (λ x. part_item (state_at nodes x)) ∙ p.preorder.all

-- ---- its leaves

pub contains_head : (w : List Bool) (ws : List (List Bool)) → Contains (w ∷ ws) w
contains_head w ws = (0, omega arith, refl)

pub contains_tail : (w v : List Bool) (ws : List (List Bool)) → Contains ws w → Contains (v ∷ ws) w
contains_tail w v ws c = (suc c.0, omega (arith, c.1), c.2)

leaf_here : (m : Market) (s : NodeState) (word : List Bool) (words : List (List Bool)) (items : List PartItem)
    → is_branched s ≡ false → Contains (leaves_of m (word ∷ words) (part_item (Some s) ∷ items)) word
leaf_here m s word words items e = grind arith

leaf_later : (m : Market) (nodes : List TreeNode) (s : NodeState) (word : List Bool) (words : List (List Bool)) (items : List PartItem) (leaf : List Bool)
    → HasChildren m (words_of nodes) word s
    → Contains (leaves_of m (words_at nodes (child_numbers s) ++ words) items) leaf
    → Contains (leaves_of m (word ∷ words) (part_item (Some s) ∷ items)) leaf
leaf_later m nodes (Branched closed opened) word words items leaf h c =
    subst (λ (ws : List (List Bool)). Contains (leaves_of m (ws ++ words) items) leaf)
    (read_words nodes (child_numbers (Branched closed opened)) (children m.gates word) h.1) c
leaf_later m nodes _ word words items leaf h c = contains_tail leaf word (leaves_of m words items) c

walk_leaf : (g : Grown) → IsGrowth g → (z : ℕ) (n : TreeNode) → slice_get g.nodes z ≡ Some n
    → is_branched n.state ≡ false → (waiting ns : List ℕ) → 1 ≤ occurs z ns → AreWithin g.nodes ns
    → IsWalk g.nodes waiting ns
    → Contains (leaves_of g.market (words_at g.nodes waiting) (map (λ x. part_item (state_at g.nodes x)) ns)) n.word
walk_leaf g k z n e leaf (v ∷ waiting) (x ∷ xs) o within w =
    let at : NodeAt g x = node_of g x k (All-head (λ y. y < length g.nodes) x xs within) in
    let items : List PartItem = map (λ y. part_item (state_at g.nodes y)) xs in
    subst (λ (y : ℕ). Contains (leaves_of g.market (word_at g.nodes y ∷ words_at g.nodes waiting) (map (λ y. part_item (state_at g.nodes y)) (x ∷ xs))) n.word) (sym w.0)
    (subst (λ (o : Option NodeState). Contains (leaves_of g.market (word_at g.nodes x ∷ words_at g.nodes waiting) (part_item o ∷ map (λ y. part_item (state_at g.nodes y)) xs)) n.word) (sym at.state)
    (elim (cases_eq x z) [
      | inl same ↦
          let one : at.node ≡ n = cc (at.there, e, ap (λ (i : ℕ). slice_get g.nodes i) same) in
          let word : word_at g.nodes x ≡ n.word = at.word ∙ ap (λ (i : TreeNode). i.word) one in
          subst (Contains (leaves_of g.market (word_at g.nodes x ∷ words_at g.nodes waiting) (part_item (Some at.node.state) ∷ map (λ y. part_item (state_at g.nodes y)) xs))) word
          (leaf_here g.market at.node.state (word_at g.nodes x) (words_at g.nodes waiting) (map (λ y. part_item (state_at g.nodes y)) xs) (ap (λ (i : TreeNode). is_branched i.state) one ∙ leaf))
      | inr other ↦
          leaf_later g.market g.nodes at.node.state (word_at g.nodes x) (words_at g.nodes waiting) (map (λ y. part_item (state_at g.nodes y)) xs) n.word at.children
          (subst (λ (ws : List (List Bool)). Contains (leaves_of g.market ws (map (λ y. part_item (state_at g.nodes y)) xs)) n.word)
          (map-append (word_at g.nodes) (children_of g.nodes x) waiting ∙ ap (λ (o : Option NodeState). words_at g.nodes (numbers_below o) ++ words_at g.nodes waiting) at.state)
          (walk_leaf g k z n e leaf (children_of g.nodes x ++ waiting) xs (omega (arith, o, occurs_later z x xs other)) (All-tail (λ y. y < length g.nodes) x xs within) w.1))
    ]))
walk_leaf g k z n e leaf _ _ o within w = grind arith

is_one : (x n : ℕ) → x < n → (k : ℕ) → k ≡ (if nat_lt x n then 1 else 0) → 1 ≤ k
is_one x n l k e = grind (arith, nat_tests)

-- where the mark is on, the nodes are a part of the search tree that the budget can't extend
pub part_is_spent : (g : Grown) (items : List PartItem) → IsGrowth g → IsPart g.nodes items → g.full ≡ true → IsSpent g.market g.budget (record { items = items })
part_is_spent g items k p full =
    let c : IsCrowded g = k.crowded full in
    let all : length items ≡ length g.nodes = part_has_all g.nodes items p in
    let there : 1 ≤ occurs c.number p.numbers = is_one c.number (length g.nodes) (slice_get_within g.nodes c.number c.node c.there) (occurs c.number p.numbers) (p.preorder.once c.number) in
    record {
      larger = crowded_is_larger g k c;
      part = part_is_of_search g items k p;
      within_budget = omega (arith, all, k.within_budget);
      overflows = record {
        leaf = c.node.word;
        of_part = subst (λ (is : List PartItem). Contains (leaves_of g.market ([] ∷ []) is) c.node.word) (sym p.items_are)
            (subst (λ (ws : List (List Bool)). Contains (leaves_of g.market ws (map (λ x. part_item (state_at g.nodes x)) p.numbers)) c.node.word) (root_word g k)
            (walk_leaf g k c.number c.node c.there c.leaf (0 ∷ []) p.numbers there (are_within g.nodes p.numbers p.preorder) p.preorder.walk));
        crowded = record { undecided = c.crowded.undecided; promising = c.crowded.promising; more = omega (arith, all, c.crowded.more) };
      };
    }

-- ---- a certificate tree

tree_step : (m : Market) (nodes : List TreeNode) (cutoff : ℕ) (s : NodeState) (word : List Bool) (words : List (List Bool)) (items : List TreeItem)
    → IsCutAt cutoff s → HasChildren m (words_of nodes) word s → HoldsAtCutoff m word s → is_done (Some s) ≡ true
    → AreParts m (LeafHolds m (pos cutoff)) (words_at nodes (child_numbers s) ++ words) items
    → AreParts m (LeafHolds m (pos cutoff)) (word ∷ words) (tree_item (Some s) ∷ items)
tree_step m nodes cutoff (Branched closed opened) word words items c h l d a =
    (h.0, subst (λ (ws : List (List Bool)). AreParts m (LeafHolds m (pos cutoff)) (ws ++ words) items) (read_words nodes (child_numbers (Branched closed opened)) (children m.gates word) h.1) a)
tree_step m nodes cutoff (Closed leaf own) word words items c h l d a = ((parts_rise m (pos own) (pos cutoff) (omega (arith, ints, c)) (word ∷ []) (Leaf leaf ∷ []) (l, tt)).0, a)
tree_step m nodes cutoff _ word words items c h l d a = grind arith

walk_tree : (g : Grown) (cutoff : ℕ) → IsGrowth g → AreCutAt cutoff g.nodes → (waiting ns : List ℕ)
    → AreWithin g.nodes ns → All (λ x. is_done (state_at g.nodes x) ≡ true) ns → IsWalk g.nodes waiting ns
    → AreParts g.market (LeafHolds g.market (pos cutoff)) (words_at g.nodes waiting) (map (λ x. tree_item (state_at g.nodes x)) ns)
walk_tree g cutoff k cut [] [] within done w = tt
walk_tree g cutoff k cut [] (x ∷ xs) within done w = absurd w
walk_tree g cutoff k cut (v ∷ waiting) [] within done w = absurd w
walk_tree g cutoff k cut (v ∷ waiting) (x ∷ xs) within done w =
    let at : NodeAt g x = node_of g x k (All-head (λ y. y < length g.nodes) x xs within) in
    let rest : AreParts g.market (LeafHolds g.market (pos cutoff)) (words_at g.nodes (children_of g.nodes x ++ waiting)) (map (λ y. tree_item (state_at g.nodes y)) xs) =
    walk_tree g cutoff k cut (children_of g.nodes x ++ waiting) xs (All-tail (λ y. y < length g.nodes) x xs within) (All-tail (λ y. is_done (state_at g.nodes y) ≡ true) x xs done) w.1 in
    let split : AreParts g.market (LeafHolds g.market (pos cutoff)) (words_at g.nodes (child_numbers at.node.state) ++ words_at g.nodes waiting) (map (λ y. tree_item (state_at g.nodes y)) xs) =
    subst (λ (ws : List (List Bool)). AreParts g.market (LeafHolds g.market (pos cutoff)) ws (map (λ y. tree_item (state_at g.nodes y)) xs))
    (map-append (word_at g.nodes) (children_of g.nodes x) waiting ∙ ap (λ (o : Option NodeState). words_at g.nodes (numbers_below o) ++ words_at g.nodes waiting) at.state) rest in
    subst (λ (y : ℕ). AreParts g.market (LeafHolds g.market (pos cutoff)) (word_at g.nodes y ∷ words_at g.nodes waiting) (map (λ z. tree_item (state_at g.nodes z)) (x ∷ xs))) (sym w.0)
    (subst (λ (o : Option NodeState). AreParts g.market (LeafHolds g.market (pos cutoff)) (word_at g.nodes x ∷ words_at g.nodes waiting) (tree_item o ∷ map (λ z. tree_item (state_at g.nodes z)) xs))
    (sym at.state)
    (tree_step g.market g.nodes cutoff at.node.state (word_at g.nodes x) (words_at g.nodes waiting) (map (λ y. tree_item (state_at g.nodes y)) xs)
    (all_get (λ (n : TreeNode). IsCutAt cutoff n.state) g.nodes x at.node cut at.there) at.children at.holds
    (ap is_done (sym at.state) ∙ All-head (λ y. is_done (state_at g.nodes y) ≡ true) x xs done) split))

-- where every node is branched or closed, the tree holds at what no cutoff exceeds
pub tree_holds : (g : Grown) (items : List TreeItem) (cutoff : ℕ) → IsGrowth g → IsTree g.nodes items → AreCutAt cutoff g.nodes → TreeHolds g.market (pos cutoff) items
tree_holds g items cutoff k t cut =
    subst (λ (is : List TreeItem). AreParts g.market (LeafHolds g.market (pos cutoff)) ([] ∷ []) is) (sym t.items_are)
    (subst (λ (ws : List (List Bool)). AreParts g.market (LeafHolds g.market (pos cutoff)) ws (map (λ x. tree_item (state_at g.nodes x)) t.numbers)) (root_word g k)
    (walk_tree g cutoff k cut (0 ∷ []) t.numbers (are_within g.nodes t.numbers t.preorder) t.done t.preorder.walk))

shape_done : (o : Option NodeState) → is_done o ≡ true → shape_of (tree_item o) ≡ part_item o
shape_done o e = grind arith

shapes_done : (nodes : List TreeNode) (ns : List ℕ) → All (λ x. is_done (state_at nodes x) ≡ true) ns
    → map shape_of (map (λ x. tree_item (state_at nodes x)) ns) ≡ map (λ x. part_item (state_at nodes x)) ns
shapes_done nodes [] d = refl
shapes_done nodes (x ∷ xs) d =
    let here : shape_of (tree_item (state_at nodes x)) ≡ part_item (state_at nodes x) = shape_done (state_at nodes x) (All-head (λ y. is_done (state_at nodes y) ≡ true) x xs d) in
    let rest : map shape_of (map (λ y. tree_item (state_at nodes y)) xs) ≡ map (λ y. part_item (state_at nodes y)) xs =
    shapes_done nodes xs (All-tail (λ y. is_done (state_at nodes y) ≡ true) x xs d) in
    ap (λ (p : PartItem). p ∷ map shape_of (map (λ y. tree_item (state_at nodes y)) xs)) here ∙ ap (λ (ps : List PartItem). part_item (state_at nodes x) ∷ ps) rest

-- and it is a part of the search tree, of all nodes
pub tree_is_of_search : (g : Grown) (items : List TreeItem) → IsGrowth g → IsTree g.nodes items → ArePartsOfSearch g.market ([] ∷ []) (map shape_of items)
tree_is_of_search g items k t =
    part_is_of_search g (map shape_of items) k (record {
      numbers = t.numbers;
      preorder = t.preorder;
      items_are = ap (map shape_of) t.items_are ∙ shapes_done g.nodes t.numbers t.done;
    })
