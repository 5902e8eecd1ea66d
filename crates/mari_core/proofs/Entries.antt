-- Each entry that is allowed keeps what a growth keeps, and the least node that waits.
use Rattle.std.proofs.Common.{◌≡◌, inl, inr, Bool, true, false, ℕ, suc, ◌+◌, ◌<◌, ◌≤◌, ◌==◌, min, pos, if◌then◌else◌, List, [], ◌∷◌, ◌++◌, length, map, get_or, Option, Some, None, arith, refl, sym, ap, subst, ◌∙◌, length-append, append_assoc}
use Rattle.std.specs.Prelude.{nat_le}
use Rattle.mari_market.specs.declared.prefix.Prefix.{Prefix}
use Rattle.mari_core.specs.Growth.{settling_by}
use Rattle.mari_core.proofs.Lists.{all_get}
use Rattle.mari_core.proofs.Children.{word_of_number}
use Rattle.std.specs.Prelude.{slice_get}
use Rattle.std.specs.Option.{option_map}
use Rattle.std.proofs.lemmas.Bool.{cases_eq, cases_lt, eqb-true}
use Rattle.std.proofs.lemmas.Bool.Decides.{nat_tests}
use Rattle.std.proofs.lemmas.Option.{slice_get_within, slice_get_read, slice_get-get_or}
use Rattle.mari_market.specs.Prefix.{children, word_of, IsFeasibleWord, IsFeasiblePrefix, IsCleared, child_words}
use Rattle.mari_market.specs.Tree.{LeafHolds}
use Rattle.mari_core.specs.declared.node.NodeState.{NodeState}
use Rattle.mari_core.specs.declared.node.NodeState.TheVariants.{Untaken, Taken, Branched, Closed}
use Rattle.mari_core.specs.Nodes.{TreeNode, new_node, in_state, words_of, word_at, state_at, branch_of}
use Rattle.mari_core.specs.Growth.{Grown, Entry, grown, with_state, branched, children_at, is_branched, IsGrowth, IsAllowed, MayBranch, take_refused, return_refused, IsNext, HoldsAtCutoff, CanBranch}
use Rattle.mari_market.specs.SearchTree.{IsNode, IsPromising}
use Rattle.mari_core.specs.declared.event.StepFault.TheVariants.{NotTaken}
use Rattle.mari_core.specs.Growth.Entry.{Take, Close, Branch, Full, GiveBack}
use Rattle.mari_core.proofs.Lists.{changed_same}
use Rattle.mari_units.proofs.Lists.{get_front}
use Rattle.mari_core.proofs.Changes.{IsAt, node_at, word_of_node, length-with_state, state_other, state_same}
use Rattle.mari_core.proofs.Keeps.{leaf_kept, crowded_stays}
use Rattle.mari_core.proofs.Children.{promising_by}
use Rattle.mari_core.proofs.Branching.{branch_kept}

-- ---- why a check lets pass

pub take_passes : (o : Option NodeState) → take_refused o ≡ None → o ≡ Some Untaken
take_passes o e = grind arith

pub return_passes : (k : ℕ) (o : Option NodeState) → return_refused k o ≡ None → o ≡ Some (Taken k)
return_passes k (Some (Taken j)) e = by_test (j == k) refl e
  where
    by_test : (b : Bool) → (j == k) ≡ b → (if b then None else Some NotTaken) ≡ None → Some (Taken j) ≡ Some (Taken k)
    by_test true same h = ap (λ (i : ℕ). Some (Taken i)) (eqb-true j k same)
    by_test false same h = absurd cc
return_passes k _ e = grind arith

-- ---- the growth is kept

pub leaf_of : (s t : NodeState) → s ≡ t → is_branched t ≡ false → is_branched s ≡ false
leaf_of s t e h = ap is_branched e ∙ h

-- an entry by which a leaf stays a leaf, and the mark stays
stays : (g : Grown) (x : ℕ) (old new : NodeState) → IsGrowth g → state_at g.nodes x ≡ Some old
    → is_branched old ≡ false → is_branched new ≡ false
    → ((n : TreeNode) → slice_get g.nodes x ≡ Some n → HoldsAtCutoff g.market n.word new)
    → IsGrowth (record g { nodes = with_state new g.nodes x })
stays g x old new k e was is holds =
    let at : IsAt g.nodes x old = node_at g.nodes x old e in
    leaf_kept new g x at.node g.full k at.there (leaf_of at.node.state old at.state_is was) is (holds at.node at.there) (λ full. crowded_stays new g x at.node g.full at.there is (k.crowded full))

full_kept : (g : Grown) (k x cutoff : ℕ) → IsGrowth g → MayBranch g k x cutoff
    → g.budget < length g.nodes + length (children_at g x)
    → IsGrowth (record g { nodes = with_state Untaken g.nodes x; full = true })
full_kept g k x cutoff grows may more =
    let at : IsAt g.nodes x (Taken k) = node_at g.nodes x (Taken k) may.taken in
    let word : word_at g.nodes x ≡ at.node.word = word_of_node g.nodes x at.node at.there in
    leaf_kept Untaken g x at.node true grows at.there (leaf_of at.node.state (Taken k) at.state_is refl) refl tt (λ full. record {
      number = x;
      node = in_state Untaken at.node;
      there = changed_same (in_state Untaken) g.nodes x at.node at.there;
      leaf = refl;
      crowded = record {
        undecided = subst (λ (w : List Bool). length w < length g.market.gates) word may.undecided;
        promising = subst (λ (w : List Bool). IsPromising g.market w) word (promising_by g.market (word_at g.nodes x) cutoff may.exceeds may.cutoff_is);
        more = omega (arith, more, length-with_state Untaken g.nodes x, ap (λ (w : List Bool). length (children g.market.gates w)) word);
      };
    })

branching_kept : (g : Grown) (k x cutoff : ℕ) → IsGrowth g → MayBranch g k x cutoff → length g.nodes + length (children_at g x) ≤ g.budget → IsGrowth (record g { nodes = branched g x })
branching_kept g k x cutoff grows may fits =
    let at : IsAt g.nodes x (Taken k) = node_at g.nodes x (Taken k) may.taken in
    let word : word_at g.nodes x ≡ at.node.word = word_of_node g.nodes x at.node at.there in
    branch_kept g x at.node grows at.there (leaf_of at.node.state (Taken k) at.state_is refl)
    (subst (λ (w : List Bool). length w < length g.market.gates) word may.undecided)
    (subst (λ (w : List Bool). IsPromising g.market w) word (promising_by g.market (word_at g.nodes x) cutoff may.exceeds may.cutoff_is))
    (omega (arith, fits, ap (λ (w : List Bool). length (children g.market.gates w)) word))

-- each entry that is allowed keeps what a growth keeps
pub entry_kept : (g : Grown) (e : Entry) → IsGrowth g → IsAllowed g e → IsGrowth (grown g e)
entry_kept g (Take k x) grows h = stays g x Untaken (Taken k) grows h refl refl (λ n there. tt)
entry_kept g (Close k x leaf cutoff) grows h =
    stays g x (Taken k) (Closed leaf cutoff) grows h.taken refl refl (λ n there. subst (λ (w : List Bool). LeafHolds g.market (pos cutoff) w leaf) (word_of_node g.nodes x n there) h.holds)
entry_kept g (Branch k x cutoff) grows h = branching_kept g k x cutoff grows h.0 h.1
entry_kept g (Full k x cutoff) grows h = full_kept g k x cutoff grows h.0 h.1
entry_kept g (GiveBack k x) grows h = stays g x (Taken k) Untaken grows h refl refl (λ n there. tt)

-- ---- the least node that waits

not_untaken : (s : NodeState) → (s ≡ Untaken → ⊥) → Some s ≡ Some Untaken → ⊥
not_untaken s n e = n (cc)

state_in : (s : NodeState) (nodes : List TreeNode) (x : ℕ) → x < length nodes → state_at (with_state s nodes x) x ≡ Some s
state_in s nodes x l = state_same s nodes x (get_or nodes x (new_node [])) (slice_get-get_or nodes x (new_node []) l)

-- before the next node none waits, after a node got a state in which it doesn't wait
pub none_before_still : (s : NodeState) (nodes : List TreeNode) (x next : ℕ) → (s ≡ Untaken → ⊥) → x < length nodes
    → IsNext nodes next → (y : ℕ) → y < next → state_at (with_state s nodes x) y ≡ Some Untaken → ⊥
none_before_still s nodes x next n l h y below e = elim (cases_eq y x) [
  | inl same ↦ not_untaken s n (sym (ap (state_at (with_state s nodes x)) same ∙ state_in s nodes x l) ∙ e)
  | inr other ↦ h.none_before y below (sym (state_other s nodes x y other) ∙ e)
]

-- where a node that doesn't wait gets a state in which it doesn't either, the next is the same
pub next_stays : (old s : NodeState) (nodes : List TreeNode) (x next : ℕ) → (old ≡ Untaken → ⊥) → (s ≡ Untaken → ⊥)
    → state_at nodes x ≡ Some old → x < length nodes → IsNext nodes next → IsNext (with_state s nodes x) next
next_stays old s nodes x next was n e l h = record {
  within = omega (arith, h.within, length-with_state s nodes x);
  none_before = none_before_still s nodes x next n l h;
  waits = λ there. elim (cases_eq next x) [
    | inl same ↦ absurd (not_untaken old was (sym e ∙ ap (state_at nodes) (sym same) ∙ h.waits (omega (arith, there, length-with_state s nodes x))))
    | inr other ↦ state_other s nodes x next other ∙ h.waits (omega (arith, there, length-with_state s nodes x))
  ];
}

-- where a node waits again, it is the next, unless there is one before it
pub next_back : (nodes : List TreeNode) (x next least : ℕ) → x < length nodes → least ≡ min next x → IsNext nodes next → IsNext (with_state Untaken nodes x) least
next_back nodes x next least l e h = elim (cases_lt next x) [
  | inl before ↦
      let same : least ≡ next = omega (arith, e, before) in
      record {
        within = omega (arith, h.within, same, length-with_state Untaken nodes x);
        none_before = λ y below is. h.none_before y (omega (arith, below, same)) (sym (state_other Untaken nodes x y (λ at. omega (arith, at, below, same, before))) ∙ is);
        waits = λ there. ap (state_at (with_state Untaken nodes x)) same ∙ state_other Untaken nodes x next (λ at. omega (arith, at, before)) ∙ h.waits (omega (arith, l, before));
      }
  | inr after ↦
      let same : least ≡ x = omega (arith, e, after) in
      record {
        within = omega (arith, l, same, length-with_state Untaken nodes x);
        none_before = λ y below is. h.none_before y (omega (arith, below, same, after)) (sym (state_other Untaken nodes x y (λ at. omega (arith, at, below, same))) ∙ is);
        waits = λ there. ap (state_at (with_state Untaken nodes x)) same ∙ state_in Untaken nodes x l;
      }
]

first_new : (w : List Bool) (may : Bool) → state_at (map new_node (child_words w may)) 0 ≡ Some Untaken
first_new w may = refl

state_front : (xs ys : List TreeNode) (k : ℕ) → k < length xs → state_at (xs ++ ys) k ≡ state_at xs k
state_front xs ys k l = ap (λ (o : Option TreeNode). option_map (λ (n : TreeNode). n.state) o) (get_front xs ys k l)

state_back : (xs ys : List TreeNode) (k : ℕ) → k ≡ length xs → state_at (xs ++ ys) k ≡ state_at ys 0
state_back (x ∷ xs) ys (suc k) e = state_back xs ys k (omega arith)
state_back _ ys _ e = grind arith

-- where new nodes wait after the others, the next is the same
pub next_with_new : (nodes : List TreeNode) (w : List Bool) (may : Bool) (next : ℕ) → IsNext nodes next → IsNext (nodes ++ map new_node (child_words w may)) next
next_with_new nodes w may next h = record {
  within = omega (arith, h.within, length-append nodes (map new_node (child_words w may)));
  none_before = λ y below is. h.none_before y below (sym (state_front nodes (map new_node (child_words w may)) y (omega (arith, below, h.within))) ∙ is);
  waits = λ there. elim (cases_lt next (length nodes)) [
    | inl l ↦ state_front nodes (map new_node (child_words w may)) next l ∙ h.waits l
    | inr l ↦ state_back nodes (map new_node (child_words w may)) next (omega (arith, l, h.within)) ∙ first_new w may
  ];
}

-- ---- the same, where the nodes are written another way

pub within_nodes : (nodes : List TreeNode) (x : ℕ) (s : NodeState) → state_at nodes x ≡ Some s → x < length nodes
within_nodes nodes x s e = let at : IsAt nodes x s = node_at nodes x s e in slice_get_within nodes x at.node at.there

pub entry_kept_by : (g : Grown) (e : Entry) (items : List TreeNode) → IsGrowth g → IsAllowed g e → items ≡ (grown g e).nodes → IsGrowth (record (grown g e) { nodes = items })
entry_kept_by g e items grows h same = subst (λ (ns : List TreeNode). IsGrowth (record (grown g e) { nodes = ns })) (sym same) (entry_kept g e grows h)

-- a branch of a node, where its children are written by whether the next gate may be open
pub record BranchKept (g : Grown) (x next : ℕ) (items : List TreeNode) : Type 0 where
  pub grows : IsGrowth (record g { nodes = items })
  pub next_is : IsNext items next
  pub nodes_are : items ≡ branched g x

branch_waits : (first : ℕ) (w : List Bool) (may : Bool) → branch_of first (child_words w may) ≡ Untaken → ⊥
branch_waits first w may e = grind arith

pub branch_entry : (g : Grown) (x next : ℕ) (w : List Bool) (may : Bool) (items : List TreeNode) → IsGrowth g
    → IsNext g.nodes next → CanBranch g x → children_at g x ≡ child_words w may
    → length g.nodes + length (children_at g x) ≤ g.budget
    → items ≡ with_state (branch_of (length g.nodes) (child_words w may)) g.nodes x ++ map new_node (child_words w may)
    → BranchKept g x next items
branch_entry g x next w may items grows waits can kids fits is =
    let same : items ≡ branched g x = is ∙ ap (λ (ws : List (List Bool)). with_state (branch_of (length g.nodes) ws) g.nodes x ++ map new_node ws) (sym kids) in
    record {
      grows = entry_kept_by g (Branch can.actor x can.cutoff) items grows (can.may, fits) same;
      next_is = subst (λ (ns : List TreeNode). IsNext ns next) (sym is)
          (next_with_new (with_state (branch_of (length g.nodes) (child_words w may)) g.nodes x) w may next
          (next_stays (Taken can.actor) (branch_of (length g.nodes) (child_words w may)) g.nodes x next (λ e. absurd (cc)) (branch_waits (length g.nodes) w may) can.may.taken
          (within_nodes g.nodes x (Taken can.actor) can.may.taken) waits));
      nodes_are = same;
    }

two_pushed : (s s' : List TreeNode) (a b a' b' : TreeNode) → s ≡ s' → a ≡ a' → b ≡ b' → (s ++ a ∷ []) ++ b ∷ [] ≡ s' ++ a' ∷ b' ∷ []
two_pushed s s' a b a' b' e f h =
    append_assoc s (a ∷ []) (b ∷ []) ∙ ap (λ (ns : List TreeNode). ns ++ a ∷ b ∷ []) e ∙ ap (λ (n : TreeNode). s' ++ n ∷ b ∷ []) f ∙ ap
    (λ (n : TreeNode). s' ++ a' ∷ n ∷ []) h

one_pushed : (s s' : List TreeNode) (a a' : TreeNode) → s ≡ s' → a ≡ a' → s ++ a ∷ [] ≡ s' ++ a' ∷ []
one_pushed s s' a a' e f = ap (λ (ns : List TreeNode). ns ++ a ∷ []) e ∙ ap (λ (n : TreeNode). s' ++ n ∷ []) f

-- the nodes where both children are pushed, and where the closed one is
pub both_pushed : (nodes reserved states : List TreeNode) (x first : ℕ) (opened : Option ℕ) (w closed_word open_word : List Bool)
    → reserved ≡ nodes → first ≡ length nodes → opened ≡ Some (first + 1)
    → states ≡ with_state (Branched first opened) reserved x → closed_word ≡ w ++ false ∷ []
    → open_word ≡ w ++ true ∷ []
    → (states ++ new_node closed_word ∷ []) ++ new_node open_word ∷ [] ≡ with_state (branch_of (length nodes) (child_words w true)) nodes x ++ map new_node (child_words w true)
both_pushed nodes reserved states x first opened w closed_word open_word same count made is f h =
    two_pushed states (with_state (branch_of (length nodes) (child_words w true)) nodes x) (new_node closed_word) (new_node open_word) (new_node (w ++ false ∷ [])) (new_node (w ++ true ∷ []))
    (is ∙ ap (λ (ns : List TreeNode). with_state (Branched first opened) ns x) same ∙ ap (λ (o : Option ℕ). with_state (Branched first o) nodes x) made
    ∙ ap (λ (i : ℕ). with_state (Branched i (Some (i + 1))) nodes x) count)
    (ap new_node f) (ap new_node h)

pub closed_pushed : (nodes reserved states : List TreeNode) (x first : ℕ) (opened : Option ℕ) (w closed_word : List Bool)
    → reserved ≡ nodes → first ≡ length nodes → opened ≡ None → states ≡ with_state (Branched first opened) reserved x
    → closed_word ≡ w ++ false ∷ []
    → states ++ new_node closed_word ∷ [] ≡ with_state (branch_of (length nodes) (child_words w false)) nodes x ++ map new_node (child_words w false)
closed_pushed nodes reserved states x first opened w closed_word same count made is f =
    one_pushed states (with_state (branch_of (length nodes) (child_words w false)) nodes x) (new_node closed_word) (new_node (w ++ false ∷ []))
    (is ∙ ap (λ (ns : List TreeNode). with_state (Branched first opened) ns x) same ∙ ap (λ (o : Option ℕ). with_state (Branched first o) nodes x) made
    ∙ ap (λ (i : ℕ). with_state (Branched i None) nodes x) count)
    (ap new_node f)

-- ---- reading a node

pub there_by : (nodes : List TreeNode) (x : ℕ) (n : TreeNode) → x < length nodes → n ≡ get_or nodes x n → slice_get nodes x ≡ Some n
there_by nodes x n l e = slice_get_read nodes (length nodes) x n refl l e

pub feasible_word : (g : Grown) (x : ℕ) (n : TreeNode) → IsGrowth g → slice_get g.nodes x ≡ Some n → IsFeasibleWord g.market.gates n.word
feasible_word g x n grows e = (all_get (IsNode g.market) (words_of g.nodes) x n.word grows.nodes_are.nodes (word_of_number g.nodes x n e)).feasible

-- a prefix of a node's word is feasible
pub feasible_prefix : (g : Grown) (x : ℕ) (n : TreeNode) (p : Prefix) → IsGrowth g → slice_get g.nodes x ≡ Some n → word_of p ≡ n.word → IsCleared p → IsFeasiblePrefix g.market p
feasible_prefix g x n p grows e w cleared = record {
  word = subst (λ (v : List Bool). IsFeasibleWord g.market.gates v) (sym w) (feasible_word g x n grows e);
  rest = cleared;
}

test_le : (a b : ℕ) → a ≤ b → nat_le a b ≡ true
test_le a b l = grind (arith, nat_tests)

test_gt : (a b : ℕ) → b < a → nat_le a b ≡ false
test_gt a b l = grind (arith, nat_tests)

pub settles_by_branch : (g : Grown) (k x cutoff : ℕ) → length g.nodes + length (children_at g x) ≤ g.budget → settling_by g k x cutoff None ≡ Branch k x cutoff
settles_by_branch g k x cutoff l = ap (λ (b : Bool). if b then Branch k x cutoff else Full k x cutoff) (test_le (length g.nodes + length (children_at g x)) g.budget l)

pub settles_by_mark : (g : Grown) (k x cutoff : ℕ) → g.budget < length g.nodes + length (children_at g x) → settling_by g k x cutoff None ≡ Full k x cutoff
settles_by_mark g k x cutoff l = ap (λ (b : Bool). if b then Branch k x cutoff else Full k x cutoff) (test_gt (length g.nodes + length (children_at g x)) g.budget l)
