-- The first place at which a certificate tree fails, where each leaf is to hold in a sense that is given.
use Rattle.std.specs.Prelude.{◌≡◌, ⊤, Bool, ℕ, ◌<◌, ◌≤◌, List, [], ◌∷◌, ◌++◌, length, take, drop}
use Rattle.mari_market.specs.declared.market.Market.{Market}
use Rattle.mari_market.specs.declared.certificate.Leaf.{Leaf as LeafRecord}
use Rattle.mari_market.specs.declared.certificate.TreeItem.{TreeItem}
use Rattle.mari_market.specs.declared.certificate.TreeItem.TheVariants.{Branch, Leaf}
use Rattle.mari_market.specs.Prefix.{children}
use Rattle.mari_market.specs.Tree.{AreParts}
use Rattle.mari_proofs.specs.declared.trees.TreeVerdict.{TreeVerdict}
use Rattle.mari_proofs.specs.declared.trees.TreeVerdict.TheVariants.{Holds, BadShape, BadLeaf}

-- the items are, in order, parts of the first of these words, and the words left have no part yet: each item is a leaf
-- that holds at the first word left, or a branch, where a gate is left to decide, which leaves the word's children in
-- its place
-- `AreParts` of `mari_market` says it of a whole tree; a walk has words that still wait.
abbrev pub LeavesWords : Market → (List Bool → LeafRecord → Type 0) → List (List Bool) → List TreeItem → List (List Bool) → Type 0
LeavesWords m holds words [] left = words ≡ left
LeavesWords m holds [] (item ∷ items) left = ⊥
LeavesWords m holds (word ∷ words) (Leaf leaf ∷ items) left = holds word leaf × LeavesWords m holds words items left
LeavesWords m holds (word ∷ words) (Branch ∷ items) left = (length word < length m.gates) × LeavesWords m holds (children m.gates word ++ words) items left

-- the shape fails at the first of these items, where these words are left: there is an item and no word, or a word and
-- no item, or a branch at a word that decides every gate
abbrev pub ShapeFails : Market → List (List Bool) → List TreeItem → Type 0
ShapeFails m [] [] = ⊥
ShapeFails m [] (item ∷ items) = ⊤
ShapeFails m (word ∷ words) [] = ⊤
ShapeFails m (word ∷ words) (Leaf leaf ∷ items) = ⊥
ShapeFails m (word ∷ words) (Branch ∷ items) = length m.gates ≤ length word

-- the first of these items is a leaf that doesn't hold at the first of the words that are left
abbrev pub LeafFails : Market → (List Bool → LeafRecord → Type 0) → List (List Bool) → List TreeItem → Type 0
LeafFails m holds [] items = ⊥
LeafFails m holds (word ∷ words) [] = ⊥
LeafFails m holds (word ∷ words) (Branch ∷ items) = ⊥
LeafFails m holds (word ∷ words) (Leaf leaf ∷ items) = holds word leaf → ⊥

-- the items before the place are parts of the tree, and there its shape fails; the place after the last item is that of
-- an ending too early
pub record IsBadShape (m : Market) (holds : List Bool → LeafRecord → Type 0) (items : List TreeItem) (place : ℕ) : Type 0 where
  pub within : place ≤ length items
  pub left : List (List Bool)
  pub before : LeavesWords m holds ([] ∷ []) (take place items) left
  pub fails : ShapeFails m left (drop place items)

-- the items before the place are parts of the tree, and the leaf there doesn't hold
pub record IsBadLeaf (m : Market) (holds : List Bool → LeafRecord → Type 0) (items : List TreeItem) (place : ℕ) : Type 0 where
  pub left : List (List Bool)
  pub before : LeavesWords m holds ([] ∷ []) (take place items) left
  pub fails : LeafFails m holds left (drop place items)

-- the verdict is right: the tree holds, or the place is the first at which it fails
abbrev pub IsTreeVerdict : Market → (List Bool → LeafRecord → Type 0) → List TreeItem → TreeVerdict → Type 0
IsTreeVerdict m holds items Holds = AreParts m holds ([] ∷ []) items
IsTreeVerdict m holds items (BadShape place) = IsBadShape m holds items place
IsTreeVerdict m holds items (BadLeaf place) = IsBadLeaf m holds items place
