-- A walk through a certificate tree that makes it hold for a gate word.
use Rattle.std.proofs.Common.{◌≡◌, inl, inr, if◌then◌else◌, Bool, true, false, ℕ, zero, suc, ◌+◌, ◌<◌, ◌≤◌, pos, List, [], ◌∷◌, ◌++◌, length, take, map, reverse, Option, Some, arith, refl, sym, ap, subst, ◌∙◌, length-append}
use Rattle.std.specs.Prelude.{IfSome}
use Rattle.std.proofs.lemmas.Int.{ints}
use Rattle.std.proofs.lemmas.List.{reverse-append, take-append-le}
use Rattle.mari_market.specs.declared.certificate.Leaf.{Leaf as LeafRecord}
use Rattle.mari_market.specs.declared.certificate.TreeItem.{TreeItem}
use Rattle.mari_market.specs.declared.certificate.TreeItem.TheVariants.{Branch, Leaf}
use Rattle.mari_market.specs.declared.market.GateInfo.{GateInfo}
use Rattle.mari_market.specs.declared.market.GateInfo.{GateInfo}
use Rattle.mari_market.specs.declared.market.Market.{Market}
use Rattle.mari_market.specs.declared.prefix.Prefix.{Prefix}
use Rattle.mari_market.specs.Clearing.{ArePartsOfSearch}
use Rattle.mari_market.specs.First.{ComesBefore}
use Rattle.mari_market.specs.Market.{IsValid}
use Rattle.mari_market.specs.Prefix.{word_of, children, may_open, opens_in, IsFeasiblePrefix, IsFeasibleWord}
use Rattle.mari_market.specs.SearchTree.{IsNode, IsPromising}
use Rattle.mari_market.specs.Tree.{AreParts, IsEarly, LeafHolds, LeafHoldsFor}
use Rattle.mari_market.proofs.Examples.{Each}
use Rattle.mari_market.proofs.Narrower.{child_leaf_holds}
use Rattle.mari_market.proofs.Prefixes.{opens_front, opens_longer, opens_within, open_child_only}
use Rattle.mari_market.proofs.Search.{parents_earlier}
use Rattle.mari_market.proofs.SearchParts.{each_append, each_child}
use Rattle.mari_market.proofs.Ties.{before_both, before_cons, before_here, none_before_closed, not_before_itself}
use Rattle.mari_gates.specs.Preorder.{left_at, opened_child, waiting, waiting_after}
use Rattle.mari_gates.proofs.Decisions.{length-decisions}
use Rattle.mari_gates.proofs.WaitingWords.{feasible_front, first_child}
use Rattle.mari_core.specs.Preorder.{shape_of}
use Rattle.mari_core.proofs.Children.{child_is_node}
use Rattle.mari_proofs.specs.Places.{LeavesWords}
use Rattle.mari_proofs.proofs.TreeWalk.{leaves_append}
use Rattle.mari_workers.specs.declared.fate.Aim.{Aim}
use Rattle.mari_workers.specs.Refine.{IsAim, IsAtLeaf, IsCrowdedAt, IsNewLeaf, IsOldLeaf, IsToBranch, IsTreeWalk}

-- ---- prefixes

-- a prefix that leaves a gate to decide is no longer than the bits
pub room_of : (m : Market) (x : Prefix) → IsValid m → length (word_of x) < length m.gates → x.length < 512
room_of m x v l = omega (arith, l, length-decisions x x.length, v.few_gates)

-- the word that decides no gate is feasible
pub nothing_opened : (gates : List GateInfo) → IsFeasibleWord gates []
nothing_opened gates = record { decided = omega arith; rules = record { parents = λ g h e p. absurd (cc); groups = λ g h k e f p q. absurd (cc) } }

-- ---- parts of a tree

-- the items so far and those that are left are parts together
pub parts_join : (m : Market) (P : List Bool → LeafRecord → Type 0) (words : List (List Bool)) (done rest : List TreeItem) (left : List (List Bool))
    → LeavesWords m P words done left → AreParts m P left rest → AreParts m P words (done ++ rest)
parts_join m P words [] rest left h a = subst (λ (ws : List (List Bool)). AreParts m P ws rest) (sym h) a
parts_join m P [] (item ∷ items) rest left h a = absurd h
parts_join m P (word ∷ words) (Leaf leaf ∷ items) rest left h a = (h.0, parts_join m P words items rest left h.1 a)
parts_join m P (word ∷ words) (Branch ∷ items) rest left h a = (h.0, parts_join m P (children m.gates word ++ words) items rest left h.1 a)

pub leaves_map : (m : Market) (P Q : List Bool → LeafRecord → Type 0)
    → ((word : List Bool) (leaf : LeafRecord) → P word leaf → Q word leaf)
    → (words : List (List Bool)) (done : List TreeItem) (left : List (List Bool)) → LeavesWords m P words done left
    → LeavesWords m Q words done left
leaves_map m P Q k words [] left h = h
leaves_map m P Q k [] (item ∷ items) left h = absurd h
leaves_map m P Q k (word ∷ words) (Leaf leaf ∷ items) left h = (k word leaf h.0, leaves_map m P Q k words items left h.1)
leaves_map m P Q k (word ∷ words) (Branch ∷ items) left h = (h.0, leaves_map m P Q k (children m.gates word ++ words) items left h.1)

-- ---- nodes

-- the leaves of a tree that holds and has only nodes
pub old_leaves : (m : Market) (w : ℕ) (words : List (List Bool)) (items : List TreeItem)
    → AreParts m (LeafHolds m (pos w)) words items → ArePartsOfSearch m words (map shape_of items)
    → AreParts m (IsOldLeaf m w) words items
old_leaves m w [] [] a p = tt
old_leaves m w [] (item ∷ items) a p = absurd a
old_leaves m w (word ∷ words) [] a p = absurd a
old_leaves m w (word ∷ words) (Leaf leaf ∷ items) a p = (record { holds = a.0; node = p.0 }, old_leaves m w words items a.1 p.1)
old_leaves m w (word ∷ words) (Branch ∷ items) a p = (a.0, old_leaves m w (children m.gates word ++ words) items a.1 p.2)

-- the parent of a node is a node
node_front : (m : Market) (word : List Bool) (b : Bool) → IsValid m → IsNode m (word ++ b ∷ []) → IsNode m word
node_front m word b v n = record {
  feasible = feasible_front m.gates word (b ∷ []) (parents_earlier m v) n.feasible;
  prefixes = λ k l. subst (IsPromising m) (take-append-le k word (b ∷ []) (omega arith)) (n.prefixes k (omega (arith, l, length-append word (b ∷ []))));
}

each_after : (P : List Bool → Type 0) (word : List Bool) (words : List (List Bool)) (may : Bool)
    → Each P (((word ++ false ∷ []) ∷ (if may then (word ++ true ∷ []) ∷ [] else [])) ++ words)
    → P (word ++ false ∷ []) × Each P words
each_after P word words true a = (a.0, a.1.1)
each_after P word words false a = (a.0, a.1)

-- where every leaf is a node, the items are parts of the search tree
pub search_parts : (m : Market) (words : List (List Bool)) (items : List TreeItem) → IsValid m
    → AreParts m (λ word leaf. IsNode m word) words items
    → ArePartsOfSearch m words (map shape_of items) × Each (IsNode m) words
search_parts m [] [] v a = (tt, tt)
search_parts m [] (item ∷ items) v a = absurd a
search_parts m (word ∷ words) [] v a = absurd a
search_parts m (word ∷ words) (Leaf leaf ∷ items) v a = let r = search_parts m words items v a.1 in ((a.0, r.0), (a.0, r.1))
search_parts m (word ∷ words) (Branch ∷ items) v a =
    let r = search_parts m (children m.gates word ++ words) items v a.1 in
    let s = each_after (IsNode m) word words (may_open m.gates word (length word)) r.1 in
    let n : IsNode m word = node_front m word false v s.0 in
    ((n, a.0, r.0), (n, s.1))

-- ---- the words that wait

-- what comes after a word still does when it is one gate longer
late_longer : (word other : List Bool) (b : Bool) → ComesBefore word other → ComesBefore word (other ++ b ∷ [])
late_longer word other b h =
    let within : h.gate < length other = opens_within other h.gate h.opened in
    record {
      gate = h.gate;
      same = λ g l. h.same g l ∙ sym (opens_front other (b ∷ []) g (omega arith));
      closed = h.closed;
      opened = opens_longer other b h.gate h.opened;
    }

-- no part of words that come after a gate word is early for it
pub after_is_late : (m : Market) (w : ℕ) (gates : List Bool) (words : List (List Bool)) (items : List TreeItem)
    → Each (ComesBefore gates) words → AreParts m (IsOldLeaf m w) words items
    → AreParts m (LeafHoldsFor m (pos w) gates) words items
after_is_late m w gates [] [] late a = tt
after_is_late m w gates [] (item ∷ items) late a = absurd a
after_is_late m w gates (word ∷ words) [] late a = absurd a
after_is_late m w gates (word ∷ words) (Leaf leaf ∷ items) late a =
    (record { holds = a.0.holds; early = λ e. absurd (not_before_itself gates (before_both gates word gates late.0 e)) }, after_is_late m w gates words items late.1 a.1)
after_is_late m w gates (word ∷ words) (Branch ∷ items) late a = (
  a.0,
  after_is_late m w gates (children m.gates word ++ words) items
      (each_append (ComesBefore gates) (children m.gates word) words
      (each_child (ComesBefore gates) word (may_open m.gates word (length word)) (late_longer gates word false late.0) (late_longer gates word true late.0)) late.1) a.1,
)

sibling_late : (word : List Bool) (n : ℕ) → n < length word → opens_in word n ≡ false → ComesBefore word (take n word ++ true ∷ [])
sibling_late [] n l e = absurd (omega arith)
sibling_late (false ∷ bs) zero l e = before_here bs []
sibling_late (true ∷ bs) zero l e = absurd (cc)
sibling_late (b ∷ bs) (suc n) l e = before_cons b bs (take n bs ++ true ∷ []) (sibling_late bs n (omega arith) e)

-- the words that wait after a word come after it
pub waiting_late : (gates : List GateInfo) (word : List Bool) (n : ℕ) → n ≤ length word → Each (ComesBefore word) (waiting gates word n)
waiting_late gates word zero l = tt
waiting_late gates word (suc n) l =
    each_append (ComesBefore word) (if opens_in word n then [] else opened_child gates (take n word)) (waiting gates word n) (by_bit (opens_in word n) refl) (waiting_late gates word n (omega arith))
  where
    by_may : (may : Bool) → opens_in word n ≡ false → Each (ComesBefore word) (if may then (take n word ++ true ∷ []) ∷ [] else [])
    by_may true e = (sibling_late word n (omega arith) e, tt)
    by_may false e = tt

    by_bit : (b : Bool) → opens_in word n ≡ b → Each (ComesBefore word) (if b then [] else opened_child gates (take n word))
    by_bit true e = tt
    by_bit false e = by_may (may_open gates (take n word) (length (take n word))) e

-- ---- one turn

-- an item of the walk, and the words that are then left
item_done : (m : Market) (P : List Bool → LeafRecord → Type 0) (done : List TreeItem) (item : TreeItem) (now left : List (List Bool))
    → LeavesWords m P ([] ∷ []) done now → LeavesWords m P now (item ∷ []) left
    → LeavesWords m P ([] ∷ []) (done ++ item ∷ []) left
item_done m P done item now left h k = leaves_append m P ([] ∷ []) done (item ∷ []) now left h k

-- the last of the items that are left is the next
pub popped : (left : List TreeItem) (item : TreeItem) → reverse (left ++ item ∷ []) ≡ item ∷ reverse left
popped left item = reverse-append left (item ∷ [])

-- a branch is taken as it is
pub branch_done : (m : Market) (aim : Aim) (x y : Prefix) (done left more : List TreeItem) → IsFeasiblePrefix m y
    → word_of y ≡ word_of x ++ false ∷ [] → IsTreeWalk m aim done more (Some x) → more ≡ left ++ Branch ∷ []
    → IsTreeWalk m aim (done ++ Branch ∷ []) left (Some y)
branch_done m aim x y done left more f child h e =
    let rest : AreParts m (IsOldLeaf m aim.welfare) (left_at m.gates (Some x)) (Branch ∷ reverse left) =
    subst (AreParts m (IsOldLeaf m aim.welfare) (left_at m.gates (Some x))) (ap reverse e ∙ popped left Branch) h.after in
    let there : left_at m.gates (Some y) ≡ children m.gates (word_of x) ++ waiting_after m.gates (word_of x) = first_child m.gates x y child in
    record {
      before = item_done m (IsNewLeaf m aim.welfare (word_of aim.word)) done Branch (left_at m.gates (Some x)) (left_at m.gates (Some y)) h.before (rest.0, sym there);
      after = subst (λ (ws : List (List Bool)). AreParts m (IsOldLeaf m aim.welfare) ws (reverse left)) (sym there) rest.1;
      feasible = f;
      within = omega (arith, h.within, ap length e, length-append left (Branch ∷ []), length-append done (Branch ∷ []));
    }

-- what a branch says of its prefix
pub branch_room : (m : Market) (aim : Aim) (x : Prefix) (done left more : List TreeItem) → IsTreeWalk m aim done more (Some x) → more ≡ left ++ Branch ∷ [] → length (word_of x) < length m.gates
branch_room m aim x done left more h e = let rest : AreParts m (IsOldLeaf m aim.welfare) (left_at m.gates (Some x)) (Branch ∷ reverse left) =
    subst (AreParts m (IsOldLeaf m aim.welfare) (left_at m.gates (Some x))) (ap reverse e ∙ popped left Branch) h.after in rest.0

-- a leaf that holds for the gate word takes its place
pub leaf_done : (m : Market) (aim : Aim) (x : Prefix) (old leaf : LeafRecord) (done left : List TreeItem) (next : Option Prefix)
    → IsAtLeaf m aim x old done left → LeafHoldsFor m (pos aim.welfare) (word_of aim.word) (word_of x) leaf
    → left_at m.gates next ≡ waiting_after m.gates (word_of x) → IfSome next (IsFeasiblePrefix m)
    → IsTreeWalk m aim (done ++ Leaf leaf ∷ []) left next
leaf_done m aim x old leaf done left next h k there f = record {
  before =
      item_done m (IsNewLeaf m aim.welfare (word_of aim.word)) done (Leaf leaf) (left_at m.gates (Some x)) (left_at m.gates next) h.before (record { holds = k; node = h.after.0.node }, sym there);
  after = subst (λ (ws : List (List Bool)). AreParts m (IsOldLeaf m aim.welfare) ws (reverse left)) (sym there) h.after.1;
  feasible = f;
  within = omega (arith, h.within, length-append done (Leaf leaf ∷ []));
}

-- a leaf that holds at the welfare is put back
pub put_back : (m : Market) (aim : Aim) (x : Prefix) (old leaf : LeafRecord) (done left more : List TreeItem)
    → IsAtLeaf m aim x old done left → LeafHolds m (pos aim.welfare) (word_of x) leaf → more ≡ left ++ Leaf leaf ∷ []
    → IsTreeWalk m aim done more (Some x)
put_back m aim x old leaf done left more h k e = record {
  before = h.before;
  after = subst (AreParts m (IsOldLeaf m aim.welfare) (left_at m.gates (Some x))) (sym (ap reverse e ∙ popped left (Leaf leaf))) (record { holds = k; node = h.after.0.node }, h.after.1);
  feasible = h.feasible;
  within = omega (arith, h.within, ap length e, length-append left (Leaf leaf ∷ []));
}

-- ---- a branch

-- an early prefix has its welfare above the closed one
pub early_above : (m : Market) (aim : Aim) (word : List Bool) (k : IsAim m aim) → IsEarly (word_of aim.word) word → k.opens.closed < aim.welfare
early_above m aim word k early = elim k.opens.above [
  | inl e ↦ absurd (none_before_closed (length m.gates) word (subst (λ (w : List Bool). ComesBefore word w) e early))
  | inr l ↦ l
]

-- a leaf to branch is promising
pub to_branch_promising : (m : Market) (aim : Aim) (word : List Bool) (leaf : LeafRecord) → IsAim m aim → IsToBranch m aim.welfare (word_of aim.word) word leaf → IsPromising m word
to_branch_promising m aim word leaf k t = record {
  relaxed = t.relaxed;
  closed = pos k.opens.closed;
  is_relaxed = t.is_relaxed;
  is_closed = k.opens.is_closed;
  above = omega (arith, ints, early_above m aim word k t.early, t.reaches);
}

-- its leaf holds at each of its children, which are nodes
child_old : (m : Market) (aim : Aim) (word : List Bool) (b : Bool) (leaf : LeafRecord) → IsValid m → IsAim m aim
    → IsToBranch m aim.welfare (word_of aim.word) word leaf → IsNode m word → IsFeasibleWord m.gates (word ++ b ∷ [])
    → (b ≡ true → may_open m.gates word (length word) ≡ true) → IsOldLeaf m aim.welfare (word ++ b ∷ []) leaf
child_old m aim word b leaf v k t n f may = record {
  holds = child_leaf_holds m (pos aim.welfare) word b leaf v t.undecided may t.holds;
  node = child_is_node m word b n (to_branch_promising m aim word leaf k t) f;
}

-- the leaves that the children of a prefix get
abbrev pub child_leaves : LeafRecord → Bool → List TreeItem
child_leaves leaf may = if may then Leaf leaf ∷ Leaf leaf ∷ [] else Leaf leaf ∷ []

child_parts : (m : Market) (aim : Aim) (word : List Bool) (leaf : LeafRecord) (may : Bool) (words : List (List Bool)) (rest : List TreeItem)
    → IsValid m → IsAim m aim → IsToBranch m aim.welfare (word_of aim.word) word leaf → IsNode m word
    → IsFeasibleWord m.gates (word ++ false ∷ []) → (may ≡ true → IsFeasibleWord m.gates (word ++ true ∷ []))
    → AreParts m (IsOldLeaf m aim.welfare) words rest
    → AreParts m (IsOldLeaf m aim.welfare) (((word ++ false ∷ []) ∷ (if may then (word ++ true ∷ []) ∷ [] else [])) ++ words) (child_leaves leaf may ++ rest)
child_parts m aim word leaf true words rest v k t n f g a = (
  child_old m aim word false leaf v k t n f (λ e. absurd (cc)),
  (child_old m aim word true leaf v k t n (g refl) (λ e. open_child_only m.gates word (parents_earlier m v) (g refl)), a),
)
child_parts m aim word leaf false words rest v k t n f g a = (child_old m aim word false leaf v k t n f (λ e. absurd (cc)), a)

turned : (leaf : LeafRecord) (may : Bool) (left : List TreeItem) → reverse (left ++ child_leaves leaf may) ≡ child_leaves leaf may ++ reverse left
turned leaf true left = reverse-append left (Leaf leaf ∷ Leaf leaf ∷ [])
turned leaf false left = reverse-append left (Leaf leaf ∷ [])

leaves_count : (leaf : LeafRecord) (may : Bool) → length (child_leaves leaf may) ≡ (if may then 2 else 1)
leaves_count leaf true = refl
leaves_count leaf false = refl

children_count : (word : List Bool) (may : Bool) → length ((word ++ false ∷ []) ∷ (if may then (word ++ true ∷ []) ∷ [] else [])) ≡ (if may then 2 else 1)
children_count word true = refl
children_count word false = refl

-- a leaf that branches
pub leaf_branched : (m : Market) (aim : Aim) (x y : Prefix) (old leaf : LeafRecord) (may : Bool) (done left more : List TreeItem)
    → IsValid m → IsAim m aim → IsAtLeaf m aim x old done left
    → IsToBranch m aim.welfare (word_of aim.word) (word_of x) leaf
    → IsFeasibleWord m.gates (word_of x ++ false ∷ []) → (may ≡ true → IsFeasibleWord m.gates (word_of x ++ true ∷ [])) → children m.gates (word_of x)
    ≡ (word_of x ++ false ∷ []) ∷ (if may then (word_of x ++ true ∷ []) ∷ [] else [])
    → IsFeasiblePrefix m y → word_of y ≡ word_of x ++ false ∷ [] → more ≡ left ++ child_leaves leaf may → length done + length left + 1 +
    (if may then 2 else 1) ≤ aim.budget → IsTreeWalk m aim (done ++ Branch ∷ []) more (Some y)
leaf_branched m aim x y old leaf may done left more v k h t f g kids fy child e fits =
    let there : left_at m.gates (Some y) ≡ children m.gates (word_of x) ++ waiting_after m.gates (word_of x) = first_child m.gates x y child in
    let below = child_parts m aim (word_of x) leaf may (waiting_after m.gates (word_of x)) (reverse left) v k t h.after.0.node f g h.after.1 in
    record {
      before = item_done m (IsNewLeaf m aim.welfare (word_of aim.word)) done Branch (left_at m.gates (Some x)) (left_at m.gates (Some y)) h.before (t.undecided, sym there);
      after =
          subst (λ (ws : List (List Bool)). AreParts m (IsOldLeaf m aim.welfare) ws (reverse more)) (sym (there ∙ ap (λ (ws : List (List Bool)). ws ++ waiting_after m.gates (word_of x)) kids))
          (subst (AreParts m (IsOldLeaf m aim.welfare) (((word_of x ++ false ∷ []) ∷ (if may then (word_of x ++ true ∷ []) ∷ [] else [])) ++ waiting_after m.gates (word_of x)))
          (sym (ap reverse e ∙ turned leaf may left)) below);
      feasible = fy;
      within = omega (arith, fits, ap length e, length-append left (child_leaves leaf may), length-append done (Branch ∷ []), leaves_count leaf may);
    }

map_leaves : (leaf : LeafRecord) (word : List Bool) (may : Bool)
    → child_leaves leaf may ++ [] ≡ map (λ (w : List Bool). Leaf leaf) ((word ++ false ∷ []) ∷ (if may then (word ++ true ∷ []) ∷ [] else []))
map_leaves leaf word true = refl
map_leaves leaf word false = refl

no_more_words : (word : List Bool) (may : Bool) → ((word ++ false ∷ []) ∷ (if may then (word ++ true ∷ []) ∷ [] else [])) ++ [] ≡ (word ++ false ∷ []) ∷ (if may then (word ++ true ∷ []) ∷ [] else [])
no_more_words word true = refl
no_more_words word false = refl

-- a leaf that can't branch within the budget
pub leaf_crowded : (m : Market) (aim : Aim) (x : Prefix) (old leaf : LeafRecord) (may : Bool) (done left more : List TreeItem)
    → IsValid m → IsAim m aim → IsAtLeaf m aim x old done left
    → IsToBranch m aim.welfare (word_of aim.word) (word_of x) leaf
    → IsFeasibleWord m.gates (word_of x ++ false ∷ []) → (may ≡ true → IsFeasibleWord m.gates (word_of x ++ true ∷ [])) → children m.gates (word_of x)
    ≡ (word_of x ++ false ∷ []) ∷ (if may then (word_of x ++ true ∷ []) ∷ [] else [])
    → more ≡ left ++ Leaf leaf ∷ [] → aim.budget < length done + length left + 1 + (if may then 2 else 1) → IsCrowdedAt m aim x done more
leaf_crowded m aim x old leaf may done left more v k h t f g kids e over =
    let below = child_parts m aim (word_of x) leaf may [] [] v k t h.after.0.node f g tt in
    let O : List Bool → LeafRecord → Type 0 = IsOldLeaf m aim.welfare in
    record {
      walk = put_back m aim x old leaf done left more h t.holds e;
      leaf = leaf;
      rest = reverse left;
      left_is = ap reverse e ∙ popped left (Leaf leaf);
      below = subst (λ (ws : List (List Bool)). AreParts m O ws (map (λ (w : List Bool). Leaf leaf) ws)) (sym kids)
          (subst (λ (ws : List (List Bool)). AreParts m O ws (map (λ (w : List Bool). Leaf leaf) ((word_of x ++ false ∷ []) ∷ (if may then (word_of x ++ true ∷ []) ∷ [] else []))))
          (no_more_words (word_of x) may)
          (subst (AreParts m O (((word_of x ++ false ∷ []) ∷ (if may then (word_of x ++ true ∷ []) ∷ [] else [])) ++ [])) (map_leaves leaf (word_of x) may) below));
      crowded = record {
        undecided = t.undecided;
        promising = to_branch_promising m aim (word_of x) leaf k t;
        more = omega (arith, over, ap length e, length-append left (Leaf leaf ∷ []), ap length kids, children_count (word_of x) may);
      };
    }
