-- How an optimal clearing becomes the first one: leaf by leaf, in preorder.
use Rattle.std.specs.Prelude.{◌≡◌, ◌⊎◌, ◌≤◌, ◌<◌, ◌+◌, ◌++◌, Bool, ℕ, ℤ, pos, ◌≤ℤ◌, List, [], ◌∷◌, length, map, reverse, Option, Some, None, IfSome, ⊤, true, false}
use Rattle.mari_market.specs.declared.activation.Activation.{Activation}
use Rattle.mari_market.specs.declared.certificate.Leaf.{Leaf as LeafRecord}
use Rattle.mari_market.specs.declared.certificate.TreeItem.{TreeItem}
use Rattle.mari_market.specs.declared.certificate.TreeItem.TheVariants.{Leaf}
use Rattle.mari_market.specs.declared.finding.Attained.{Attained}
use Rattle.mari_market.specs.declared.finding.Finding.{Finding}
use Rattle.mari_market.specs.declared.clearing.Clearing.{Clearing}
use Rattle.mari_market.specs.declared.clearing.Cleared.{Cleared}
use Rattle.mari_market.specs.declared.clearing.Cleared.TheVariants.{Published, Spent, Memory}
use Rattle.mari_market.specs.declared.market.Market.{Market}
use Rattle.mari_market.specs.declared.prefix.Prefix.{Prefix}
use Rattle.mari_market.specs.Activation.{gate_word_of, welfare_of}
use Rattle.mari_market.specs.Clearing.{ArePartsOfSearch, IsCrowdedOut, IsOptimalClearing}
use Rattle.mari_market.specs.Optimal.{IsAdmissible}
use Rattle.mari_market.specs.Prefix.{word_of, children, IsFeasiblePrefix}
use Rattle.mari_market.specs.Relaxation.{all_closed, IsClosedWelfare, IsRelaxedWelfare}
use Rattle.mari_market.specs.SearchTree.{IsNode}
use Rattle.mari_market.specs.Tree.{AreParts, IsEarly, LeafHolds, LeafHoldsFor}
use Rattle.mari_gates.specs.Preorder.{left_at}
use Rattle.mari_core.specs.Growth.{closing_leaf}
use Rattle.mari_core.specs.Preorder.{shape_of}
use Rattle.mari_proofs.specs.Places.{LeavesWords}
use Rattle.mari_workers.specs.Alone.{best_in}
use Rattle.mari_workers.specs.declared.fate.Aim.{Aim}
use Rattle.mari_workers.specs.declared.fate.Fate.{Fate}
use Rattle.mari_workers.specs.declared.fate.Fate.TheVariants.{Stays, Branches, Yields}
use Rattle.mari_workers.specs.declared.refining.Turn.{Turn}
use Rattle.mari_workers.specs.declared.refining.Turn.TheVariants.{On, Full, Yield}
use Rattle.mari_workers.specs.declared.refining.Walk.{Walk}
use Rattle.mari_units.specs.declared.limits.TheConstants.{MOST_NODES}

-- the word opens no gate, unless the welfare is more than the closed welfare
pub record OpensForMore (m : Market) (word : List Bool) (welfare : ℕ) : Type 0 where
  pub closed : ℕ
  pub is_closed : IsClosedWelfare m (pos closed)
  pub above : (word ≡ all_closed m) ⊎ (closed < welfare)

-- what may be refined: an optimal clearing with a tree of nodes of the search tree, which opens no gate or has more
-- than the closed welfare
pub record MayRefine (m : Market) (budget : ℕ) (c : Clearing) : Type 0 where
  pub clearing : IsOptimalClearing m budget c
  pub nodes : ArePartsOfSearch m ([] ∷ []) (map shape_of c.tree)
  pub opens : OpensForMore m (gate_word_of m c.activation) c.welfare

-- what is published has a tree of nodes of the search tree
abbrev pub HasNodes : Market → Cleared → Type 0
HasNodes m (Published c) = ArePartsOfSearch m ([] ∷ []) (map shape_of c.tree)
HasNodes m (Spent s) = ⊤
HasNodes m Memory = ⊤

-- what is published opens no gate, where its welfare is the closed welfare
abbrev pub ClosesAtClosed : Market → Cleared → Type 0
ClosesAtClosed m (Published c) = IsClosedWelfare m (pos c.welfare) → gate_word_of m c.activation ≡ all_closed m
ClosesAtClosed m (Spent s) = ⊤
ClosesAtClosed m Memory = ⊤

-- what is aimed at: the optimal welfare, and gate words that come before this one, which opens no gate unless the
-- welfare is more than the closed welfare
pub record IsAim (m : Market) (aim : Aim) : Type 0 where
  pub budget : aim.budget ≤ MOST_NODES
  pub word : IsFeasiblePrefix m aim.word
  pub greatest : (a : Activation) → IsAdmissible m a → welfare_of m a ≤ℤ pos aim.welfare
  pub opens : OpensForMore m (word_of aim.word) aim.welfare

-- an early leaf below which an optimal activation may lie: it holds at the welfare, and its relaxed welfare is at least
-- that
pub record IsToBranch (m : Market) (w : ℕ) (gates word : List Bool) (leaf : LeafRecord) : Type 0 where
  pub holds : LeafHolds m (pos w) word leaf
  pub early : IsEarly gates word
  pub undecided : length word < length m.gates
  pub relaxed : ℤ
  pub is_relaxed : IsRelaxedWelfare m word relaxed
  pub reaches : pos w ≤ℤ relaxed

-- an admissible activation of an early gate word and of the welfare
pub record IsEarlier (m : Market) (w : ℕ) (gates word : List Bool) (leaf : LeafRecord) (a : Activation) : Type 0 where
  pub holds : LeafHolds m (pos w) word leaf
  pub early : IsEarly gates word
  pub admissible : IsAdmissible m a
  pub welfare : welfare_of m a ≡ pos w
  pub gates_are : gate_word_of m a ≡ word

-- what becomes of a leaf: one that holds for the gate word, its children, or an earlier activation
abbrev pub IsFate : Market → ℕ → List Bool → List Bool → Fate → Type 0
IsFate m w gates word (Stays leaf) = LeafHoldsFor m (pos w) gates word leaf
IsFate m w gates word (Branches leaf) = IsToBranch m w gates word leaf
IsFate m w gates word (Yields leaf a) = IsEarlier m w gates word leaf a

-- what becomes of a leaf without another certificate: an activation where every gate is decided, and else a branch
abbrev pub unbounded : Option Attained → LeafRecord → Bool → Fate
unbounded (Some best) leaf true = Yields leaf best.activation
unbounded (Some best) leaf false = Branches leaf
unbounded None leaf decided = Branches leaf

-- what becomes of a leaf where there is another certificate, or none
abbrev pub replaced : Option LeafRecord → Option Attained → LeafRecord → Bool → Fate
replaced (Some other) best leaf decided = Stays other
replaced None best leaf decided = unbounded best leaf decided

-- what becomes of a leaf by what is found at its word, where a certificate is to hold at this number
abbrev pub fate_by : Finding → LeafRecord → ℕ → Bool → Fate
fate_by finding leaf most decided = replaced (closing_leaf most finding) (best_in finding) leaf decided

-- a leaf of a node that holds for the gate word
pub record IsNewLeaf (m : Market) (w : ℕ) (gates word : List Bool) (leaf : LeafRecord) : Type 0 where
  pub holds : LeafHoldsFor m (pos w) gates word leaf
  pub node : IsNode m word

-- a leaf of a node that holds at the welfare
pub record IsOldLeaf (m : Market) (w : ℕ) (word : List Bool) (leaf : LeafRecord) : Type 0 where
  pub holds : LeafHolds m (pos w) word leaf
  pub node : IsNode m word

-- a walk through a tree: the items so far are parts of it that hold for the gate word, and those that are left, the
-- next at the end, are the parts of the next prefix and of the words that wait after it, and hold at the welfare
pub record IsTreeWalk (m : Market) (aim : Aim) (done left : List TreeItem) (next : Option Prefix) : Type 0 where
  pub before : LeavesWords m (IsNewLeaf m aim.welfare (word_of aim.word)) ([] ∷ []) done (left_at m.gates next)
  pub after : AreParts m (IsOldLeaf m aim.welfare) (left_at m.gates next) (reverse left)
  pub feasible : IfSome next (IsFeasiblePrefix m)
  pub within : length done + length left ≤ aim.budget

-- the same walk where the leaf of the next prefix is taken out
pub record IsAtLeaf (m : Market) (aim : Aim) (x : Prefix) (leaf : LeafRecord) (done left : List TreeItem) : Type 0 where
  pub before : LeavesWords m (IsNewLeaf m aim.welfare (word_of aim.word)) ([] ∷ []) done (left_at m.gates (Some x))
  pub after : AreParts m (IsOldLeaf m aim.welfare) (left_at m.gates (Some x)) (Leaf leaf ∷ reverse left)
  pub feasible : IsFeasiblePrefix m x
  pub within : length done + length left + 1 ≤ aim.budget

-- at the next prefix a promising leaf, which would hold at each of its children, can't branch within the budget
pub record IsCrowdedAt (m : Market) (aim : Aim) (x : Prefix) (done left : List TreeItem) : Type 0 where
  pub walk : IsTreeWalk m aim done left (Some x)
  pub leaf : LeafRecord
  pub rest : List TreeItem
  pub left_is : reverse left ≡ Leaf leaf ∷ rest
  pub below : AreParts m (IsOldLeaf m aim.welfare) (children m.gates (word_of x)) (map (λ word. Leaf leaf) (children m.gates (word_of x)))
  pub crowded : IsCrowdedOut m aim.budget (length done + length left) (word_of x)

-- at the next prefix, which decides every gate, an activation of the welfare is found, and that gate word is early
pub record IsFoundAt (m : Market) (aim : Aim) (x : Prefix) (done left : List TreeItem) (a : Activation) : Type 0 where
  pub walk : IsTreeWalk m aim done left (Some x)
  pub early : IsEarly (word_of aim.word) (word_of x)
  pub admissible : IsAdmissible m a
  pub welfare : welfare_of m a ≡ pos aim.welfare
  pub gates_are : gate_word_of m a ≡ word_of x

-- what one turn at a prefix does: one item more is done, or the budget is spent, or an earlier activation is found
abbrev pub IsTurn : Market → Aim → Prefix → ℕ → Walk → Turn → Type 0
IsTurn m aim x count walk On = IsTreeWalk m aim walk.done.items walk.left.items walk.next × (length walk.done.items ≡ count + 1)
IsTurn m aim x count walk Full = IsCrowdedAt m aim x walk.done.items walk.left.items
IsTurn m aim x count walk (Yield a) = IsFoundAt m aim x walk.done.items walk.left.items a

-- what the last turn of a walk comes to: no prefix is left, or the budget is spent, or an earlier activation is found
abbrev pub IsLastTurn : Market → Aim → Walk → Turn → Type 0
IsLastTurn m aim walk On = IsTreeWalk m aim walk.done.items walk.left.items None
IsLastTurn m aim walk Full = (x : Prefix) × IsCrowdedAt m aim x walk.done.items walk.left.items
IsLastTurn m aim walk (Yield a) = (x : Prefix) × IsFoundAt m aim x walk.done.items walk.left.items a

-- what a walk from an activation of the welfare comes to by its last turn: that activation with the items that are
-- done, or the shapes of all items, or the earlier activation with all items
abbrev pub ended : Walk → Turn → Activation → ℕ → Cleared
ended walk On a w = Published (record { activation = a; welfare = w; tree = walk.done.items })
ended walk Full a w = Spent (record { items = map shape_of (walk.done.items ++ reverse walk.left.items) })
ended walk (Yield earlier) a w = Published (record { activation = earlier; welfare = w; tree = walk.done.items ++ reverse walk.left.items })
