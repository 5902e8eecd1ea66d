-- A leaf that branches.
use Rattle.std.proofs.Common.{◌≡◌, ◌⊎◌, inl, inr, Bool, true, false, ℕ, zero, suc, ◌+◌, ◌-◌, ◌<◌, ◌≤◌, nat_lt, if◌then◌else◌, List, [], ◌∷◌, ◌++◌, length, map, Option, Some, None, arith, refl, sym, ap, subst, ◌∙◌, length-append}
use Rattle.std.specs.Prelude.{slice_get}
use Rattle.std.specs.List.{All}
use Rattle.std.specs.Option.{option_map}
use Rattle.std.proofs.lemmas.Bool.{cases_lt}
use Rattle.std.proofs.lemmas.Bool.Decides.{nat_tests}
use Rattle.std.proofs.lemmas.List.{map-append, length-map}
use Rattle.std.proofs.lemmas.List.Elements.{All-append, All-cons, All-nil}
use Rattle.std.proofs.lemmas.Option.{slice_get_within, slice_get_past}
use Rattle.mari_market.specs.declared.market.Market.{Market}
use Rattle.mari_market.specs.Prefix.{children, may_open, child_words}
use Rattle.mari_market.specs.SearchTree.{IsPromising, AreNodes}
use Rattle.mari_core.specs.declared.node.NodeState.{NodeState}
use Rattle.mari_core.specs.declared.node.NodeState.TheVariants.{Branched}
use Rattle.mari_core.specs.Nodes.{TreeNode, new_node, in_state, words_of, state_at, child_numbers, numbers_below, children_of, branch_of}
use Rattle.mari_core.specs.Preorder.{HasPreorder, occurs}
use Rattle.mari_core.specs.Growth.{Grown, with_state, branched, is_branched, IsGrowth, IsCrowded, HasChildren, HasParent, HoldsAtCutoff}
use Rattle.mari_core.proofs.Lists.{changed_same, changed_other, all_changed}
use Rattle.mari_units.proofs.Lists.{get_front, get_back}
use Rattle.mari_core.proofs.Changes.{words-with_state, length-with_state, leaf_has_none, word_of_node}
use Rattle.mari_core.proofs.Keeps.{parent_stays}
use Rattle.mari_core.proofs.Insertions.{insert_after, occurs-insert_after, length-insert_after, walk_grows, AreLeaves}
use Rattle.mari_core.proofs.Children.{nodes_with_children}

-- the numbers of children that are made from this number on
abbrev own_numbers : ℕ → Bool → List ℕ
own_numbers first may = first ∷ (if may then (first + 1) ∷ [] else [])

numbers_made : (first : ℕ) (w : List Bool) (may : Bool) → child_numbers (branch_of first (child_words w may)) ≡ own_numbers first may
numbers_made first w may = grind arith

branches : (first : ℕ) (w : List Bool) (may : Bool) → is_branched (branch_of first (child_words w may)) ≡ true
branches first w may = grind arith

-- the nodes where the children of node x are made
abbrev pub grown_by : List TreeNode → ℕ → List Bool → Bool → List TreeNode
grown_by nodes x w may = with_state (branch_of (length nodes) (child_words w may)) nodes x ++ map new_node (child_words w may)

words_new : (ws : List (List Bool)) → words_of (map new_node ws) ≡ ws
words_new [] = refl
words_new (w ∷ ws) = ap (λ (vs : List (List Bool)). w ∷ vs) (words_new ws)

words-grown_by : (nodes : List TreeNode) (x : ℕ) (w : List Bool) (may : Bool) → words_of (grown_by nodes x w may) ≡ words_of nodes ++ child_words w may
words-grown_by nodes x w may =
    let s : NodeState = branch_of (length nodes) (child_words w may) in
    map-append (λ (n : TreeNode). n.word) (with_state s nodes x) (map new_node (child_words w may))
    ∙ ap (λ (vs : List (List Bool)). vs ++ words_of (map new_node (child_words w may))) (words-with_state s nodes x)
    ∙ ap (λ (vs : List (List Bool)). words_of nodes ++ vs) (words_new (child_words w may))

length-grown_by : (nodes : List TreeNode) (x : ℕ) (w : List Bool) (may : Bool) → length (grown_by nodes x w may) ≡ length nodes + length (child_words w may)
length-grown_by nodes x w may =
    let s : NodeState = branch_of (length nodes) (child_words w may) in
    omega (arith, length-append (with_state s nodes x) (map new_node (child_words w may)), length-with_state s nodes x, length-map (child_words w may) new_node)

-- ---- children and parents

get_first : {X : Type 0} (xs : List X) (y : X) (ys : List X) (k : ℕ) → k ≡ length xs → slice_get (xs ++ y ∷ ys) k ≡ Some y
get_first (x ∷ xs) y ys (suc k) e = get_first xs y ys k (omega arith)
get_first _ y ys _ e = grind arith

get_second : {X : Type 0} (xs : List X) (y z : X) (k : ℕ) → k ≡ length xs + 1 → slice_get (xs ++ y ∷ z ∷ []) k ≡ Some z
get_second (x ∷ xs) y z (suc k) e = get_second xs y z k (omega arith)
get_second _ y z _ e = grind arith

made_children : (m : Market) (words : List (List Bool)) (w : List Bool) (first : ℕ) (may : Bool)
    → may_open m.gates w (length w) ≡ may → first ≡ length words → length w < length m.gates
    → HasChildren m (words ++ child_words w may) w (branch_of first (child_words w may))
made_children m words w first true e l u = (
  u,
  ap (λ (o : Option (List Bool)). o ∷ slice_get (words ++ child_words w true) (first + 1) ∷ []) (get_first words (w ++ false ∷ []) ((w ++ true ∷ []) ∷ []) first l)
      ∙ ap (λ (o : Option (List Bool)). Some (w ++ false ∷ []) ∷ o ∷ []) (get_second words (w ++ false ∷ []) (w ++ true ∷ []) (first + 1) (omega arith))
      ∙ ap (λ (b : Bool). map (λ (v : List Bool). Some v) (child_words w b)) (sym e),
)
made_children m words w first false e l u = (
  u,
  ap (λ (o : Option (List Bool)). o ∷ []) (get_first words (w ++ false ∷ []) [] first l)
      ∙ ap (λ (b : Bool). map (λ (v : List Bool). Some v) (child_words w b)) (sym e),
)

more_words : (words more : List (List Bool)) (numbers : List ℕ) (kids : List (List Bool))
    → map (λ x. slice_get words x) numbers ≡ map (λ v. Some v) kids
    → map (λ x. slice_get (words ++ more) x) numbers ≡ map (λ v. Some v) kids
more_words words more (x ∷ xs) (v ∷ vs) e =
    let here : slice_get words x ≡ Some v = cc in
    let rest : map (λ y. slice_get words y) xs ≡ map (λ u. Some u) vs = cc in
    let front : slice_get (words ++ more) x ≡ Some v = get_front words more x (slice_get_within words x v here) ∙ here in
    let back : map (λ y. slice_get (words ++ more) y) xs ≡ map (λ u. Some u) vs = more_words words more xs vs rest in
    cc
more_words words more _ _ e = grind arith

more_children : (m : Market) (words more : List (List Bool)) (w : List Bool) (s : NodeState) → HasChildren m words w s → HasChildren m (words ++ more) w s
more_children m words more w (Branched closed opened) h = (h.0, more_words words more (child_numbers (Branched closed opened)) (children m.gates w) h.1)
more_children m words more w _ h = tt

more_parents : (nodes more : List TreeNode) (w : List Bool) → (w ≡ []) ⊎ HasParent nodes w → (w ≡ []) ⊎ HasParent (nodes ++ more) w
more_parents nodes more w (inl root) = inl root
more_parents nodes more w (inr p) = inr (record {
  number = p.number;
  node = p.node;
  last = p.last;
  there = get_front nodes more p.number (slice_get_within nodes p.number p.node p.there) ∙ p.there;
  child = p.child;
  branched_is = p.branched_is;
})

all_new : (P : TreeNode → Type 0) (w : List Bool) (may : Bool) → ((b : Bool) → P (new_node (w ++ b ∷ []))) → All P (map new_node (child_words w may))
all_new P w false h = All-cons P (new_node (w ++ false ∷ [])) [] (h false) (All-nil P)
all_new P w true h = All-cons P (new_node (w ++ false ∷ [])) (new_node (w ++ true ∷ []) ∷ []) (h false) (All-cons P (new_node (w ++ true ∷ [])) [] (h true) (All-nil P))

-- ---- the preorder

new_are_leaves : (ws : List (List Bool)) (k : ℕ) → numbers_below (state_at (map new_node ws) k) ≡ []
new_are_leaves (w ∷ ws) (suc k) = new_are_leaves ws k
new_are_leaves _ _ = refl

option_of : (nodes : List TreeNode) (x : ℕ) (o : Option TreeNode) → slice_get nodes x ≡ o → children_of nodes x ≡ numbers_below (option_map (λ (n : TreeNode). n.state) o)
option_of nodes x o e = ap (λ (p : Option TreeNode). numbers_below (option_map (λ (n : TreeNode). n.state) p)) e

past_none : (nodes : List TreeNode) (y : ℕ) → length nodes ≤ y → children_of nodes y ≡ []
past_none nodes y l = option_of nodes y None (slice_get_past nodes y l)

others_keep : (nodes : List TreeNode) (x : ℕ) (w : List Bool) (may : Bool) (y : ℕ) → (y ≡ x → ⊥) → children_of (grown_by nodes x w may) y ≡ children_of nodes y
others_keep nodes x w may y n =
    let s : NodeState = branch_of (length nodes) (child_words w may) in
    let long : length (with_state s nodes x) ≡ length nodes = length-with_state s nodes x in
    elim (cases_lt y (length nodes)) [
      | inl l ↦
          option_of (grown_by nodes x w may) y (slice_get nodes y) (get_front (with_state s nodes x) (map new_node (child_words w may)) y (omega arith) ∙ changed_other (in_state s) nodes x y n)
      | inr l ↦
          let there : y ≡ length (with_state s nodes x) + (y - length nodes) = omega arith in
          ap (children_of (grown_by nodes x w may)) there
          ∙ option_of (grown_by nodes x w may) (length (with_state s nodes x) + (y - length nodes))
          (slice_get (map new_node (child_words w may)) (y - length nodes))
          (get_back (with_state s nodes x) (map new_node (child_words w may)) (y - length nodes))
          ∙ new_are_leaves (child_words w may) (y - length nodes)
          ∙ sym (past_none nodes y l)
    ]

x_has_children : (nodes : List TreeNode) (x : ℕ) (n : TreeNode) (w : List Bool) (may : Bool) → slice_get nodes x ≡ Some n → children_of (grown_by nodes x w may) x ≡ own_numbers (length nodes) may
x_has_children nodes x n w may e =
    let s : NodeState = branch_of (length nodes) (child_words w may) in
    let l : x < length (with_state s nodes x) = omega (arith, length-with_state s nodes x, slice_get_within nodes x n e) in
    option_of (grown_by nodes x w may) x (Some (in_state s n)) (get_front (with_state s nodes x) (map new_node (child_words w may)) x l ∙ changed_same (in_state s) nodes x n e)
    ∙ numbers_made (length nodes) w may

new_leaves : (nodes : List TreeNode) (x : ℕ) (n : TreeNode) (w : List Bool) (may : Bool) → slice_get nodes x ≡ Some n → AreLeaves (grown_by nodes x w may) (own_numbers (length nodes) may)
new_leaves nodes x n w false e =
    let l : x < length nodes = slice_get_within nodes x n e in
    (others_keep nodes x w false (length nodes) (λ same. omega (arith, l, same)) ∙ past_none nodes (length nodes) (omega arith), tt)
new_leaves nodes x n w true e =
    let l : x < length nodes = slice_get_within nodes x n e in (
      others_keep nodes x w true (length nodes) (λ same. omega (arith, l, same)) ∙ past_none nodes (length nodes) (omega arith),
      (others_keep nodes x w true (length nodes + 1) (λ same. omega (arith, l, same)) ∙ past_none nodes (length nodes + 1) (omega arith), tt),
    )

counted : (z first : ℕ) (w : List Bool) (may : Bool) → (if nat_lt z first then 1 else 0) + occurs z (own_numbers first may) ≡ (if nat_lt z (first + length (child_words w may)) then 1 else 0)
counted z first w may = grind (arith, nat_tests)

length-own_numbers : (first : ℕ) (w : List Bool) (may : Bool) → length (own_numbers first may) ≡ length (child_words w may)
length-own_numbers first w may = grind arith

is_there : (x n : ℕ) → x < n → suc zero ≡ (if nat_lt x n then 1 else 0)
is_there x n l = grind (arith, nat_tests)

grown_preorder : (nodes : List TreeNode) (x : ℕ) (n : TreeNode) (w : List Bool) (may : Bool)
    → slice_get nodes x ≡ Some n → is_branched n.state ≡ false → HasPreorder nodes
    → HasPreorder (grown_by nodes x w may)
grown_preorder nodes x n w may e leaf p =
    let once : occurs x p.numbers ≡ 1 = p.preorder.once x ∙ sym (is_there x (length nodes) (slice_get_within nodes x n e)) in
    record {
      numbers = insert_after x (own_numbers (length nodes) may) p.numbers;
      preorder = record {
        walk = walk_grows nodes (grown_by nodes x w may) x (own_numbers (length nodes) may) (others_keep nodes x w may)
            (option_of nodes x (Some n) e ∙ leaf_has_none n.state leaf) (x_has_children nodes x n w may e) (new_leaves nodes x n w may e) (0 ∷ []) p.numbers once p.preorder.walk;
        once = λ z. occurs-insert_after x (own_numbers (length nodes) may) p.numbers z (omega (arith, once)) ∙ ap (λ (i : ℕ). i + occurs z (own_numbers (length nodes) may)) (p.preorder.once z)
            ∙ counted z (length nodes) w may ∙ ap (λ (i : ℕ). if nat_lt z i then 1 else 0) (sym (length-grown_by nodes x w may));
        all = omega
            (arith, length-insert_after x (own_numbers (length nodes) may) p.numbers (omega (arith, once)), p.preorder.all, length-own_numbers (length nodes) w may, length-grown_by nodes x w may);
      };
    }

-- ---- what is kept

abbrev made_state : Grown → TreeNode → Bool → NodeState
made_state g n may = branch_of (length g.nodes) (child_words n.word may)

no_cutoff : (m : Market) (word : List Bool) (first : ℕ) (w : List Bool) (may : Bool) → HoldsAtCutoff m word (branch_of first (child_words w may))
no_cutoff m word first w may = grind arith

-- a node that could branch, but for the budget, isn't one that branches within it
still_crowded : (g : Grown) (x : ℕ) (n : TreeNode) (may : Bool) → may_open g.market.gates n.word (length n.word) ≡ may
    → slice_get g.nodes x ≡ Some n → length g.nodes + length (child_words n.word may) ≤ g.budget → IsCrowded g
    → IsCrowded (record g { nodes = grown_by g.nodes x n.word may })
still_crowded g x n may opens e fits c = record {
  number = c.number;
  node = c.node;
  there = get_front (with_state (made_state g n may) g.nodes x) (map new_node (child_words n.word may)) c.number
      (omega (arith, length-with_state (made_state g n may) g.nodes x, slice_get_within g.nodes c.number c.node c.there))
      ∙ changed_other (in_state (made_state g n may)) g.nodes x c.number (λ same. apart same) ∙ c.there;
  leaf = c.leaf;
  crowded = record { undecided = c.crowded.undecided; promising = c.crowded.promising; more = omega (arith, c.crowded.more, length-grown_by g.nodes x n.word may) };
}
  where
    apart : c.number ≡ x → ⊥
    apart same =
        let there : slice_get g.nodes x ≡ Some c.node = ap (λ (i : ℕ). slice_get g.nodes i) (sym same) ∙ c.there in
        let one : n ≡ c.node = cc in
        let count : length (child_words n.word may) ≡ length (children g.market.gates c.node.word) =
        ap (λ (b : Bool). length (child_words n.word b)) (sym opens) ∙ ap (λ (i : TreeNode). length (children g.market.gates i.word)) one in
        omega (arith, c.crowded.more, fits, count)

-- a leaf among the nodes branches where its children fit
grown_kept : (g : Grown) (x : ℕ) (n : TreeNode) (may : Bool) → may_open g.market.gates n.word (length n.word) ≡ may
    → IsGrowth g → slice_get g.nodes x ≡ Some n → is_branched n.state ≡ false → length n.word < length g.market.gates
    → IsPromising g.market n.word → length g.nodes + length (child_words n.word may) ≤ g.budget
    → IsGrowth (record g { nodes = grown_by g.nodes x n.word may })
grown_kept g x n may opens k e leaf u promising fits = record {
  valid = k.valid;
  budget_is = k.budget_is;
  nodes_are = subst (λ (ws : List (List Bool)). AreNodes g.market ws) (ap (λ (b : Bool). words_of g.nodes ++ child_words n.word b) opens ∙ sym (words-grown_by g.nodes x n.word may))
      (nodes_with_children g x n k e leaf u promising);
  root = ap (λ (ws : List (List Bool)). slice_get ws 0) (words-grown_by g.nodes x n.word may)
      ∙ get_front (words_of g.nodes) (child_words n.word may) 0 (omega (arith, slice_get_within (words_of g.nodes) 0 [] k.root)) ∙ k.root;
  within_budget = omega (arith, length-grown_by g.nodes x n.word may, fits);
  have_children = subst (λ (ws : List (List Bool)). All (λ (j : TreeNode). HasChildren g.market ws j.word j.state) (grown_by g.nodes x n.word may)) (sym (words-grown_by g.nodes x n.word may))
      (All-append (λ (j : TreeNode). HasChildren g.market (words_of g.nodes ++ child_words n.word may) j.word j.state) (with_state (made_state g n may) g.nodes x)
      (map new_node (child_words n.word may))
      (all_changed (λ (j : TreeNode). HasChildren g.market (words_of g.nodes) j.word j.state) (λ (j : TreeNode). HasChildren g.market (words_of g.nodes ++ child_words n.word may) j.word j.state)
      (in_state (made_state g n may)) g.nodes x k.have_children
      (λ y j d there h. more_children g.market (words_of g.nodes) (child_words n.word may) j.word j.state h)
      (λ j there h. let one : n ≡ j = cc in subst (λ (i : TreeNode). HasChildren g.market (words_of g.nodes ++ child_words n.word may) i.word (made_state g n may)) one
      (made_children g.market (words_of g.nodes) n.word (length g.nodes) may opens (sym (length-map g.nodes (λ (i : TreeNode). i.word))) u)))
      (all_new (λ (j : TreeNode). HasChildren g.market (words_of g.nodes ++ child_words n.word may) j.word j.state) n.word may (λ b. tt)));
  have_parents = All-append (λ (j : TreeNode). (j.word ≡ []) ⊎ HasParent (grown_by g.nodes x n.word may) j.word) (with_state (made_state g n may) g.nodes x) (map new_node (child_words n.word may))
      (all_changed (λ (j : TreeNode). (j.word ≡ []) ⊎ HasParent g.nodes j.word) (λ (j : TreeNode). (j.word ≡ []) ⊎ HasParent (grown_by g.nodes x n.word may) j.word)
      (in_state (made_state g n may)) g.nodes x k.have_parents
      (λ y j d there h. more_parents (with_state (made_state g n may) g.nodes x) (map new_node (child_words n.word may)) j.word (parent_stays (made_state g n may) g.nodes x n e leaf j.word h))
      (λ j there h. more_parents (with_state (made_state g n may) g.nodes x) (map new_node (child_words n.word may)) j.word (parent_stays (made_state g n may) g.nodes x n e leaf j.word h)))
      (all_new (λ (j : TreeNode). (j.word ≡ []) ⊎ HasParent (grown_by g.nodes x n.word may) j.word) n.word may (λ b. inr (record {
        number = x;
        node = in_state (made_state g n may) n;
        last = b;
        there = get_front (with_state (made_state g n may) g.nodes x) (map new_node (child_words n.word may)) x
            (omega (arith, length-with_state (made_state g n may) g.nodes x, slice_get_within g.nodes x n e)) ∙ changed_same (in_state (made_state g n may)) g.nodes x n e;
        child = refl;
        branched_is = branches (length g.nodes) n.word may;
      })));
  hold = All-append (λ (j : TreeNode). HoldsAtCutoff g.market j.word j.state) (with_state (made_state g n may) g.nodes x) (map new_node (child_words n.word may))
      (all_changed (λ (j : TreeNode). HoldsAtCutoff g.market j.word j.state) (λ (j : TreeNode). HoldsAtCutoff g.market j.word j.state) (in_state (made_state g n may)) g.nodes x k.hold
      (λ y j d there h. h)
      (λ j there h. no_cutoff g.market j.word (length g.nodes) n.word may))
      (all_new (λ (j : TreeNode). HoldsAtCutoff g.market j.word j.state) n.word may (λ b. tt));
  preorder = grown_preorder g.nodes x n n.word may e leaf k.preorder;
  crowded = λ full. still_crowded g x n may opens e fits (k.crowded full);
}

-- a leaf that leaves a gate to decide and is promising may branch, where its children fit
pub branch_kept : (g : Grown) (x : ℕ) (n : TreeNode) → IsGrowth g → slice_get g.nodes x ≡ Some n
    → is_branched n.state ≡ false → length n.word < length g.market.gates → IsPromising g.market n.word
    → length g.nodes + length (children g.market.gates n.word) ≤ g.budget
    → IsGrowth (record g { nodes = branched g x })
branch_kept g x n k e leaf u promising fits =
    subst (λ (w : List Bool). IsGrowth (record g { nodes = with_state (branch_of (length g.nodes) (children g.market.gates w)) g.nodes x ++ map new_node (children g.market.gates w) }))
    (sym (word_of_node g.nodes x n e)) (grown_kept g x n (may_open g.market.gates n.word (length n.word)) refl k e leaf u promising fits)
