-- Trees of states: a branch decides any gate that is free, or splits the prices of a zone.
use Rattle.std.specs.Prelude.{Bool, ℤ, List, [], ◌∷◌, ◌++◌, ⊤}
use Rattle.mari_market.specs.declared.market.Market.{Market}
use Rattle.mari_reach.specs.declared.decisions.Decision.{Decision}
use Rattle.mari_reach.specs.declared.decisions.ReachLeaf.{ReachLeaf}
use Rattle.mari_reach.specs.declared.decisions.ReachItem.{ReachItem}
use Rattle.mari_reach.specs.declared.decisions.ReachItem.TheVariants.{Branch, Leaf}
use Rattle.mari_reach.specs.State.{MayBranch, children_at}
use Rattle.mari_reach.specs.Leaf.{ReachLeafHolds}

-- the items are, in order, the parts of these states: the part of a state is a leaf that holds, in the sense given, or a
-- branch at a choice that is left, followed by the parts of the state's two children
abbrev pub ArePartsOf : Market → (List Decision → ReachLeaf → Type 0) → List (List Decision) → List ReachItem → Type 0
ArePartsOf m holds [] [] = ⊤
ArePartsOf m holds [] (item ∷ items) = ⊥
ArePartsOf m holds (ds ∷ states) [] = ⊥
ArePartsOf m holds (ds ∷ states) (Leaf leaf ∷ items) = holds ds leaf × ArePartsOf m holds states items
ArePartsOf m holds (ds ∷ states) (Branch choice ∷ items) = MayBranch m ds choice × ArePartsOf m holds (children_at ds choice ++ states) items

-- a tree holds at a cutoff for a gate word: its items are the part of the state without decisions, and each leaf holds
abbrev pub ReachHolds : Market → ℤ → List Bool → List ReachItem → Type 0
ReachHolds m cutoff word items = ArePartsOf m (ReachLeafHolds m cutoff word) ([] ∷ []) items

-- any leaf of any state
abbrev pub AnyLeaf : List Decision → ReachLeaf → Type 0
AnyLeaf ds leaf = ⊤

-- a tree has its shape: its items are the part of the state without decisions, whatever its leaves say
abbrev pub HasShape : Market → List ReachItem → Type 0
HasShape m items = ArePartsOf m AnyLeaf ([] ∷ []) items
