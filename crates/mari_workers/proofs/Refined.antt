-- The ends of a walk that refines: a clearing of the first activation, or a part of the search tree that the budget
-- can't extend.
use Rattle.std.proofs.Common.{◌≡◌, inl, inr, Bool, ℕ, suc, ◌+◌, ◌<◌, ◌≤◌, ℤ, pos, ◌≤ℤ◌, List, [], ◌∷◌, ◌++◌, length, map, reverse, Result, Ok, Err, Some, None, arith, refl, sym, ap, subst, ◌∙◌, length-append}
use Rattle.std.specs.Prelude.{Contains, IfOk}
use Rattle.std.proofs.lemmas.Int.{ints}
use Rattle.std.proofs.lemmas.List.{length-reverse, length-map}
use Rattle.mari_market.specs.declared.activation.Activation.{Activation}
use Rattle.mari_market.specs.declared.certificate.Leaf.{Leaf as LeafRecord}
use Rattle.mari_market.specs.declared.certificate.TreeItem.{TreeItem}
use Rattle.mari_market.specs.declared.certificate.TreeItem.TheVariants.{Branch, Leaf}
use Rattle.mari_market.specs.declared.clearing.Clearing.{Clearing}
use Rattle.mari_market.specs.declared.clearing.Cleared.{Cleared}
use Rattle.mari_market.specs.declared.clearing.Cleared.TheVariants.{Published, Spent, Memory}
use Rattle.mari_market.specs.declared.clearing.PartItem.{PartItem}
use Rattle.mari_market.specs.declared.market.Market.{Market}
use Rattle.mari_market.specs.declared.prefix.Prefix.{Prefix}
use Rattle.mari_market.specs.Activation.{gate_word_of, welfare_of}
use Rattle.mari_market.specs.Clearing.{ArePartsOfSearch, Clears, IsClearing, IsSpent, leaves_of}
use Rattle.mari_market.specs.Market.{IsValid}
use Rattle.mari_market.specs.Optimal.{IsAdmissible}
use Rattle.mari_market.specs.Prefix.{word_of, children}
use Rattle.mari_market.specs.Relaxation.{all_closed, IsClosedWelfare}
use Rattle.mari_market.specs.SearchTree.{IsNode, IsLarger}
use Rattle.mari_market.specs.Tree.{AreParts, LeafHolds, LeafHoldsFor, TreeHoldsFor}
use Rattle.mari_market.proofs.Search.{AreParts-map, one_welfare}
use Rattle.mari_market.proofs.SearchParts.{part_is_nodes, visited}
use Rattle.mari_market.proofs.Ties.{before_both, closed_is_first, first_by_tree, not_before_itself, one_first_word, tree_holds_plain}
use Rattle.mari_market.proofs.Words.{length-gate_word_of}
use Rattle.mari_gates.specs.Preorder.{left_at, waiting_after}
use Rattle.mari_core.specs.Preorder.{shape_of}
use Rattle.mari_core.proofs.Seeds.{larger_by}
use Rattle.mari_core.proofs.Parts.{contains_head, contains_tail}
use Rattle.mari_proofs.specs.Places.{LeavesWords}
use Rattle.mari_proofs.proofs.TreeWalk.{none_left}
use Rattle.mari_workers.specs.declared.fate.Aim.{Aim}
use Rattle.mari_workers.specs.declared.refining.Turn.{Turn}
use Rattle.mari_workers.specs.declared.refining.Turn.TheVariants.{On, Full, Yield}
use Rattle.mari_workers.specs.declared.refining.Walk.{Walk}
use Rattle.mari_workers.specs.Refine.{ended, ClosesAtClosed, HasNodes, IsCrowdedAt, IsFoundAt, IsLastTurn, IsNewLeaf, IsOldLeaf, IsTreeWalk, MayRefine}
use Rattle.mari_workers.proofs.TreeWalks.{after_is_late, leaves_map, old_leaves, parts_join, search_parts, waiting_late}

-- ---- an activation is the first

-- the clearing of an activation whose tree holds for its gate word
pub clears_by : (m : Market) (budget w : ℕ) (gates : List Bool) (a : Activation) (items : List TreeItem) → IsValid m
    → IsAdmissible m a → welfare_of m a ≡ pos w → gate_word_of m a ≡ gates → TreeHoldsFor m (pos w) gates items
    → length items ≤ budget → IsClearing m budget (record { activation = a; welfare = w; tree = items })
clears_by m budget w gates a items v adm e g t l =
    let own : TreeHoldsFor m (pos w) (gate_word_of m a) items = subst (λ (gs : List Bool). TreeHoldsFor m (pos w) gs items) (sym g) t in
    record {
      first = first_by_tree m a items v adm (subst (λ (u : ℤ). TreeHoldsFor m u (gate_word_of m a) items) (sym e) own);
      welfare = e;
      tree = own;
      within_budget = l;
    }

-- at its end the walk holds for the gate word that it began with
pub ended_clears : (m : Market) (aim : Aim) (a : Activation) (done left : List TreeItem) → IsValid m
    → IsAdmissible m a → welfare_of m a ≡ pos aim.welfare → gate_word_of m a ≡ word_of aim.word
    → IsTreeWalk m aim done left None
    → IsClearing m aim.budget (record { activation = a; welfare = aim.welfare; tree = done })
ended_clears m aim a done left v adm e g h =
    clears_by m aim.budget aim.welfare (word_of aim.word) a done v adm e g
    (AreParts-map m (IsNewLeaf m aim.welfare (word_of aim.word)) (LeafHoldsFor m (pos aim.welfare) (word_of aim.word)) (λ word leaf k. k.holds) ([] ∷ []) done
    (none_left m (IsNewLeaf m aim.welfare (word_of aim.word)) ([] ∷ []) done h.before))
    (omega (arith, h.within))

-- where an earlier activation is found, the items that are left aren't early for its gate word
rest_for : (m : Market) (aim : Aim) (x : Prefix) (rest : List TreeItem) → length (word_of x) ≡ length m.gates
    → AreParts m (IsOldLeaf m aim.welfare) (word_of x ∷ waiting_after m.gates (word_of x)) rest
    → AreParts m (LeafHoldsFor m (pos aim.welfare) (word_of x)) (word_of x ∷ waiting_after m.gates (word_of x)) rest
rest_for m aim x [] full a = absurd a
rest_for m aim x (Leaf leaf ∷ rest) full a = (
  record { holds = a.0.holds; early = λ e. absurd (not_before_itself (word_of x) e) },
  after_is_late m aim.welfare (word_of x) (waiting_after m.gates (word_of x)) rest (waiting_late m.gates (word_of x) (length (word_of x)) (omega arith)) a.1,
)
rest_for m aim x (Branch ∷ rest) full a = absurd (omega (arith, full, a.0))

-- so the whole tree holds for that gate word
pub found_clears : (m : Market) (aim : Aim) (x : Prefix) (a : Activation) (done left items : List TreeItem)
    → IsValid m → IsFoundAt m aim x done left a → items ≡ done ++ reverse left
    → IsClearing m aim.budget (record { activation = a; welfare = aim.welfare; tree = items })
found_clears m aim x a done left items v h e =
    let P : List Bool → LeafRecord → Type 0 = LeafHoldsFor m (pos aim.welfare) (word_of x) in
    let full : length (word_of x) ≡ length m.gates = sym (ap length h.gates_are) ∙ length-gate_word_of m a in
    let front : LeavesWords m P ([] ∷ []) done (left_at m.gates (Some x)) = leaves_map m (IsNewLeaf m aim.welfare (word_of aim.word)) P (λ word leaf k. record {
      holds = k.holds.holds;
      early = λ b. k.holds.early (before_both word (word_of x) (word_of aim.word) b h.early);
    }) ([] ∷ []) done (left_at m.gates (Some x)) h.walk.before in
    let whole : TreeHoldsFor m (pos aim.welfare) (word_of x) (done ++ reverse left) =
    parts_join m P ([] ∷ []) done (reverse left) (left_at m.gates (Some x)) front (rest_for m aim x (reverse left) full h.walk.after) in
    clears_by m aim.budget aim.welfare (word_of x) a items v h.admissible h.welfare h.gates_are (subst (TreeHoldsFor m (pos aim.welfare) (word_of x)) (sym e) whole)
    (omega (arith, h.walk.within, ap length e, length-append done (reverse left), length-reverse left))

-- ---- the budget is spent

-- the next word is that of a leaf
leaf_there : (m : Market) (P : List Bool → LeafRecord → Type 0) (words : List (List Bool)) (done rest : List TreeItem) (leaf : LeafRecord) (word : List Bool) (left : List (List Bool))
    → LeavesWords m P words done (word ∷ left)
    → Contains (leaves_of m words (map shape_of (done ++ Leaf leaf ∷ rest))) word
leaf_there m P words [] rest leaf word left h =
    subst (λ (ws : List (List Bool)). Contains (leaves_of m ws (map shape_of (Leaf leaf ∷ rest))) word) (sym h)
    (contains_head word (leaves_of m left (map shape_of rest)))
leaf_there m P [] (item ∷ items) rest leaf word left h = absurd h
leaf_there m P (w ∷ ws) (Leaf l ∷ items) rest leaf word left h = contains_tail word w (leaves_of m ws (map shape_of (items ++ Leaf leaf ∷ rest))) (leaf_there m P ws items rest leaf word left h.1)
leaf_there m P (w ∷ ws) (Branch ∷ items) rest leaf word left h = leaf_there m P (children m.gates w ++ ws) items rest leaf word left h.1

-- leaves of some words, and parts of others
leaves_then : (m : Market) (P : List Bool → LeafRecord → Type 0) (leaf : LeafRecord) (kids words : List (List Bool)) (rest : List TreeItem)
    → AreParts m P kids (map (λ (w : List Bool). Leaf leaf) kids) → AreParts m P words rest
    → AreParts m P (kids ++ words) (map (λ (w : List Bool). Leaf leaf) kids ++ rest)
leaves_then m P leaf [] words rest a b = b
leaves_then m P leaf (kid ∷ kids) words rest a b = (a.0, leaves_then m P leaf kids words rest a.1 b)

-- a tree of more nodes shows that the search tree is larger than the budget
larger_tree : (m : Market) (w budget : ℕ) (items : List TreeItem) → IsValid m → AreParts m (IsOldLeaf m w) ([] ∷ []) items → budget < length items → IsLarger m budget
larger_tree m w budget items v a l =
    let part = (search_parts m ([] ∷ []) items v (AreParts-map m (IsOldLeaf m w) (λ word leaf. IsNode m word) (λ word leaf k. k.node) ([] ∷ []) items a)).0 in
    let nodes = part_is_nodes m (map shape_of items) part in
    larger_by m budget (visited m ([] ∷ []) (map shape_of items)) nodes.0 (omega (arith, l, nodes.1, length-map items shape_of))

pub crowded_spends : (m : Market) (aim : Aim) (x : Prefix) (done left whole : List TreeItem) (items : List PartItem)
    → IsValid m → IsCrowdedAt m aim x done left → whole ≡ done ++ reverse left → items ≡ map shape_of whole
    → IsSpent m aim.budget (record { items = items })
crowded_spends m aim x done left whole items v h e f =
    let O : List Bool → LeafRecord → Type 0 = IsOldLeaf m aim.welfare in
    let kids : List (List Bool) = children m.gates (word_of x) in
    let waits : List (List Bool) = waiting_after m.gates (word_of x) in
    let front : LeavesWords m O ([] ∷ []) done (word_of x ∷ waits) =
    leaves_map m (IsNewLeaf m aim.welfare (word_of aim.word)) O (λ word leaf k. record { holds = k.holds.holds; node = k.node }) ([] ∷ []) done (word_of x ∷ waits) h.walk.before in
    let after : AreParts m O (word_of x ∷ waits) (Leaf h.leaf ∷ h.rest) = subst (AreParts m O (word_of x ∷ waits)) h.left_is h.walk.after in
    let all : AreParts m O ([] ∷ []) (done ++ Leaf h.leaf ∷ h.rest) = parts_join m O ([] ∷ []) done (Leaf h.leaf ∷ h.rest) (word_of x ∷ waits) front after in
    let more : AreParts m O ([] ∷ []) (done ++ Branch ∷ (map (λ (w : List Bool). Leaf h.leaf) kids ++ h.rest)) =
    parts_join m O ([] ∷ []) done (Branch ∷ (map (λ (w : List Bool). Leaf h.leaf) kids ++ h.rest)) (word_of x ∷ waits) front
    (h.crowded.undecided, leaves_then m O h.leaf kids waits h.rest h.below after.1) in
    let same : items ≡ map shape_of (done ++ Leaf h.leaf ∷ h.rest) = f ∙ ap (map shape_of) (e ∙ ap (λ (is : List TreeItem). done ++ is) h.left_is) in
    let count : length items ≡ length done + length left =
    ap length same ∙ length-map (done ++ Leaf h.leaf ∷ h.rest) shape_of ∙ omega (arith, length-append done (Leaf h.leaf ∷ h.rest), sym (ap length h.left_is), length-reverse left) in
    let long : length left ≡ suc (length h.rest) = omega (arith, ap length h.left_is, length-reverse left) in
    record {
      larger = larger_tree m aim.welfare aim.budget (done ++ Branch ∷ (map (λ (w : List Bool). Leaf h.leaf) kids ++ h.rest)) v more
          (omega (
            arith,
            h.crowded.more,
            long,
            length-append done (Branch ∷ (map (λ (w : List Bool). Leaf h.leaf) kids ++ h.rest)),
            length-append (map (λ (w : List Bool). Leaf h.leaf) kids) h.rest,
            length-map kids (λ (w : List Bool). Leaf h.leaf),
          ));
      part = subst (ArePartsOfSearch m ([] ∷ [])) (sym same)
          (search_parts m ([] ∷ []) (done ++ Leaf h.leaf ∷ h.rest) v (AreParts-map m O (λ word leaf. IsNode m word) (λ word leaf k. k.node) ([] ∷ []) (done ++ Leaf h.leaf ∷ h.rest) all)).0;
      within_budget = omega (arith, count, h.walk.within);
      overflows = record {
        leaf = word_of x;
        of_part = subst (λ (is : List PartItem). Contains (leaves_of m ([] ∷ []) is) (word_of x)) (sym same) (leaf_there m O ([] ∷ []) done h.rest h.leaf (word_of x) waits front);
        crowded = record { undecided = h.crowded.undecided; promising = h.crowded.promising; more = omega (arith, count, h.crowded.more) };
      };
    }

-- ---- the end of a walk

-- whatever the last turn is, what the walk comes to clears the market
pub last_clears : (m : Market) (aim : Aim) (walk : Walk) (last : Turn) (a : Activation) → IsValid m → IsAdmissible m a
    → welfare_of m a ≡ pos aim.welfare → gate_word_of m a ≡ word_of aim.word → IsLastTurn m aim walk last
    → Clears m aim.budget (ended walk last a aim.welfare)
last_clears m aim walk On a v adm e g h = ended_clears m aim a walk.done.items walk.left.items v adm e g h
last_clears m aim walk Full a v adm e g h =
    crowded_spends m aim h.0 walk.done.items walk.left.items (walk.done.items ++ reverse walk.left.items)
    (map shape_of (walk.done.items ++ reverse walk.left.items)) v h.1 refl refl
last_clears m aim walk (Yield b) a v adm e g h = found_clears m aim h.0 b walk.done.items walk.left.items (walk.done.items ++ reverse walk.left.items) v h.1 refl

pub clears_as : {X : Type 0} (m : Market) (budget : ℕ) (r : Result Cleared X) (reported : Cleared) → IfOk r (λ cleared. cleared ≡ reported) → Clears m budget reported → IfOk r (Clears m budget)
clears_as m budget (Ok cleared) reported is h = subst (Clears m budget) (sym is) h
clears_as m budget (Err fault) reported is h = tt

-- ---- the tree's nodes

-- the parts of a walk at its end
walk_nodes : (m : Market) (aim : Aim) (x : Prefix) (done left : List TreeItem) → IsValid m → IsTreeWalk m aim done left (Some x) → ArePartsOfSearch m ([] ∷ []) (map shape_of (done ++ reverse left))
walk_nodes m aim x done left v h =
    let N : List Bool → LeafRecord → Type 0 = λ word leaf. IsNode m word in
    let front : LeavesWords m N ([] ∷ []) done (left_at m.gates (Some x)) =
    leaves_map m (IsNewLeaf m aim.welfare (word_of aim.word)) N (λ word leaf k. k.node) ([] ∷ []) done (left_at m.gates (Some x)) h.before in
    let after : AreParts m N (left_at m.gates (Some x)) (reverse left) = AreParts-map m (IsOldLeaf m aim.welfare) N (λ word leaf k. k.node) (left_at m.gates (Some x)) (reverse left) h.after in
    (search_parts m ([] ∷ []) (done ++ reverse left) v (parts_join m N ([] ∷ []) done (reverse left) (left_at m.gates (Some x)) front after)).0

-- whatever the last turn is, what is published has a tree of nodes
pub last_nodes : (m : Market) (aim : Aim) (walk : Walk) (last : Turn) (a : Activation) → IsValid m → IsLastTurn m aim walk last → HasNodes m (ended walk last a aim.welfare)
last_nodes m aim walk On a v h =
    (search_parts m ([] ∷ []) walk.done.items v
    (AreParts-map m (IsNewLeaf m aim.welfare (word_of aim.word)) (λ word leaf. IsNode m word) (λ word leaf k. k.node) ([] ∷ []) walk.done.items
    (none_left m (IsNewLeaf m aim.welfare (word_of aim.word)) ([] ∷ []) walk.done.items h.before))).0
last_nodes m aim walk Full a v h = tt
last_nodes m aim walk (Yield b) a v h = walk_nodes m aim h.0 walk.done.items walk.left.items v h.1.walk

pub nodes_as : {X : Type 0} (m : Market) (r : Result Cleared X) (reported : Cleared) → IfOk r (λ cleared. cleared ≡ reported) → HasNodes m reported → IfOk r (HasNodes m)
nodes_as m (Ok cleared) reported is h = subst (HasNodes m) (sym is) h
nodes_as m (Err fault) reported is h = tt

-- ---- a clearing may be refined

-- with a tree that is cut back
pub cut_may_refine : (m : Market) (budget : ℕ) (found : Clearing) (tree : List TreeItem) → IsValid m
    → MayRefine m budget found → AreParts m (IsOldLeaf m found.welfare) ([] ∷ []) tree
    → length tree ≤ length found.tree
    → MayRefine m budget (record { activation = found.activation; welfare = found.welfare; tree = tree })
cut_may_refine m budget found tree v h parts l = record {
  clearing = record {
    optimal = h.clearing.optimal;
    welfare = h.clearing.welfare;
    tree = AreParts-map m (IsOldLeaf m found.welfare) (LeafHolds m (pos found.welfare)) (λ word leaf k. k.holds) ([] ∷ []) tree parts;
    within_budget = omega (arith, l, h.clearing.within_budget);
  };
  nodes = (search_parts m ([] ∷ []) tree v (AreParts-map m (IsOldLeaf m found.welfare) (λ word leaf. IsNode m word) (λ word leaf k. k.node) ([] ∷ []) tree parts)).0;
  opens = h.opens;
}

pub may_cut : (m : Market) (budget : ℕ) (found : Clearing) → MayRefine m budget found → AreParts m (IsOldLeaf m found.welfare) ([] ∷ []) found.tree
may_cut m budget found h = old_leaves m found.welfare ([] ∷ []) found.tree h.clearing.tree h.nodes

-- and what was refined may be refined again
pub may_again : (m : Market) (budget : ℕ) (found c : Clearing) → MayRefine m budget found → IsClearing m budget c → ArePartsOfSearch m ([] ∷ []) (map shape_of c.tree) → MayRefine m budget c
may_again m budget found c h k nodes = record {
  clearing = record { optimal = k.first.optimal; welfare = k.welfare; tree = tree_holds_plain m (pos c.welfare) (gate_word_of m c.activation) c.tree k.tree; within_budget = k.within_budget };
  nodes = nodes;
  opens = record {
    closed = h.opens.closed;
    is_closed = h.opens.is_closed;
    above = elim h.opens.above [
      | inl e ↦ inl (one_first_word m c.activation found.activation k.first (closed_is_first m found.activation h.clearing.optimal e) ∙ e)
      | inr more ↦ inr (omega (arith, ints, more, same))
    ];
  };
}
  where
    same : pos c.welfare ≡ pos found.welfare
    same = sym k.welfare ∙ one_welfare m c.activation found.activation k.first.optimal h.clearing.optimal ∙ h.clearing.welfare

-- ---- at the closed welfare

-- a clearing of the closed welfare opens no gate, where it comes from one that opens none or has more than the closed
-- welfare
closed_by : (m : Market) (budget : ℕ) (found c : Clearing) → MayRefine m budget found → IsClearing m budget c → IsClosedWelfare m (pos c.welfare) → gate_word_of m c.activation ≡ all_closed m
closed_by m budget found c h k w = elim h.opens.above [
  | inl e ↦ one_first_word m c.activation found.activation k.first (closed_is_first m found.activation h.clearing.optimal e) ∙ e
  | inr more ↦ absurd (omega (arith, ints, more, at_most, same))
]
  where
    same : pos c.welfare ≡ pos found.welfare
    same = sym k.welfare ∙ one_welfare m c.activation found.activation k.first.optimal h.clearing.optimal ∙ h.clearing.welfare

    at_most : pos c.welfare ≤ℤ pos h.opens.closed
    at_most = subst (λ (u : ℤ). u ≤ℤ pos h.opens.closed) w.reached.2 (h.opens.is_closed.greatest w.reached.0 w.reached.1)

pub closes_at_closed : (m : Market) (budget : ℕ) (found : Clearing) (result : Cleared) → MayRefine m budget found → Clears m budget result → ClosesAtClosed m result
closes_at_closed m budget found (Published c) h k = closed_by m budget found c h k
closes_at_closed m budget found (Spent s) h k = tt
closes_at_closed m budget found Memory h k = tt
