-- The verdict on a tree of states: whether its shape fails anywhere, or else which leaf is the first that doesn't hold.
use Rattle.std.specs.Prelude.{◌≡◌, ⊤, Bool, true, false, ℕ, ◌≤◌, List, [], ◌∷◌, ◌++◌, length, take, drop, Option, Some, None}
use Rattle.mari_market.specs.declared.market.Market.{Market}
use Rattle.mari_proofs.specs.declared.trees.TreeVerdict.{TreeVerdict}
use Rattle.mari_proofs.specs.declared.trees.TreeVerdict.TheVariants.{Holds, BadShape, BadLeaf}
use Rattle.mari_reach.specs.declared.decisions.Decision.{Decision}
use Rattle.mari_reach.specs.declared.decisions.Decision.TheVariants.{Above, AtMost, Gate}
use Rattle.mari_reach.specs.declared.decisions.ReachLeaf.{ReachLeaf}
use Rattle.mari_reach.specs.declared.decisions.ReachItem.{ReachItem}
use Rattle.mari_reach.specs.declared.decisions.ReachItem.TheVariants.{Branch, Leaf}
use Rattle.mari_reach.specs.State.{MayBranch, children_at}
use Rattle.mari_reach.specs.Tree.{AnyLeaf, ArePartsOf, HasShape}

-- the items are, in order, parts of the first of these states, each leaf of which holds, and the states left have no part
-- yet
abbrev pub LeavesStates : Market → (List Decision → ReachLeaf → Type 0) → List (List Decision) → List ReachItem → List (List Decision) → Type 0
LeavesStates m holds states [] left = states ≡ left
LeavesStates m holds [] (item ∷ items) left = ⊥
LeavesStates m holds (ds ∷ states) (Leaf leaf ∷ items) left = holds ds leaf × LeavesStates m holds states items left
LeavesStates m holds (ds ∷ states) (Branch choice ∷ items) left = MayBranch m ds choice × LeavesStates m holds (children_at ds choice ++ states) items left

-- the shape fails at the first of these items, where these states are left: there is an item and no state, or a state and
-- no item, or a branch that may not stand there
abbrev pub ShapeFails : Market → List (List Decision) → List ReachItem → Type 0
ShapeFails m [] [] = ⊥
ShapeFails m [] (item ∷ items) = ⊤
ShapeFails m (ds ∷ states) [] = ⊤
ShapeFails m (ds ∷ states) (Leaf leaf ∷ items) = ⊥
ShapeFails m (ds ∷ states) (Branch choice ∷ items) = MayBranch m ds choice → ⊥

-- the first of these items is a leaf that doesn't hold for the first of the states that are left
abbrev pub LeafFails : Market → (List Decision → ReachLeaf → Type 0) → List (List Decision) → List ReachItem → Type 0
LeafFails m holds [] items = ⊥
LeafFails m holds (ds ∷ states) [] = ⊥
LeafFails m holds (ds ∷ states) (Branch choice ∷ items) = ⊥
LeafFails m holds (ds ∷ states) (Leaf leaf ∷ items) = holds ds leaf → ⊥

-- the items before the place are parts of a tree, whatever its leaves say, and there its shape fails; the place after the
-- last item is that of a tree that ends too early
pub record IsBadShape (m : Market) (items : List ReachItem) (place : ℕ) : Type 0 where
  pub within : place ≤ length items
  pub left : List (List Decision)
  pub before : LeavesStates m AnyLeaf ([] ∷ []) (take place items) left
  pub fails : ShapeFails m left (drop place items)

-- the items before the place are parts of a tree whose leaves hold, and the leaf there doesn't
pub record IsFalseLeaf (m : Market) (holds : List Decision → ReachLeaf → Type 0) (items : List ReachItem) (place : ℕ) : Type 0 where
  pub left : List (List Decision)
  pub before : LeavesStates m holds ([] ∷ []) (take place items) left
  pub fails : LeafFails m holds left (drop place items)

-- the verdict is right: the tree holds; or the place is the first at which its shape fails; or the shape is right to the
-- end, and the leaf at the place is the first that doesn't hold
abbrev pub IsReachVerdict : Market → (List Decision → ReachLeaf → Type 0) → List ReachItem → TreeVerdict → Type 0
IsReachVerdict m holds items Holds = ArePartsOf m holds ([] ∷ []) items
IsReachVerdict m holds items (BadShape place) = IsBadShape m items place
IsReachVerdict m holds items (BadLeaf place) = HasShape m items × IsFalseLeaf m holds items place

-- ---- a walk

-- the first of these items, if it is a leaf, holds for the first of the states that are left
abbrev pub LeafFits : Market → (List Decision → ReachLeaf → Type 0) → List (List Decision) → List ReachItem → Type 0
LeafFits m holds [] items = ⊤
LeafFits m holds (ds ∷ states) [] = ⊤
LeafFits m holds (ds ∷ states) (Branch choice ∷ items) = ⊤
LeafFits m holds (ds ∷ states) (Leaf leaf ∷ items) = holds ds leaf

-- what the second child decides, where the decision is that of a first child
abbrev pub second_after : Decision → Option Decision
second_after (Gate g true) = None
second_after (Gate g false) = Some (Gate g true)
second_after (AtMost z p) = Some (Above z p)
second_after (Above z p) = None

-- the state with this decision more, if there is one
abbrev pub state_with : List Decision → Option Decision → List (List Decision)
state_with ds None = []
state_with ds (Some d) = (ds ++ d ∷ []) ∷ []

-- the states that wait while a walk is at a state below these decisions: the second child of each of which it decides as
-- the first, the last one first
abbrev pub waiting_after : List Decision → List Decision → List (List Decision)
waiting_after done [] = []
waiting_after done (d ∷ ds) = waiting_after (done ++ d ∷ []) ds ++ state_with done (second_after d)

-- the states that have no part yet, where a walk is at a state or at its end
abbrev pub states_left : Bool → List Decision → List (List Decision)
states_left false ds = []
states_left true ds = ds ∷ waiting_after [] ds
