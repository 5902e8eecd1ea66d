-- How a tree that holds at a welfare is cut back: a leaf may stand for a branch and all that is below it.
use Rattle.std.specs.Prelude.{◌≡◌, ◌≤◌, ◌<◌, ◌+◌, ◌++◌, Bool, ℕ, List, [], ◌∷◌, length, reverse, Option, Some, IfSome, ⊤}
use Rattle.mari_market.specs.declared.certificate.TreeItem.{TreeItem}
use Rattle.mari_market.specs.declared.market.Market.{Market}
use Rattle.mari_market.specs.declared.prefix.Prefix.{Prefix}
use Rattle.mari_market.specs.Prefix.{IsFeasiblePrefix}
use Rattle.mari_market.specs.Tree.{AreParts}
use Rattle.mari_gates.specs.Preorder.{left_at, waiting_after}
use Rattle.mari_proofs.specs.Places.{LeavesWords}
use Rattle.mari_workers.specs.declared.cutting.Cutting.{Cutting}
use Rattle.mari_workers.specs.Refine.{IsOldLeaf}

-- a walk through a tree: the items that are done are parts of it, those that are left, the next at the end, are the
-- parts of the next prefix and of the words that wait after it, and the leaves of both hold
pub record IsCutting (m : Market) (w : ℕ) (done left : List TreeItem) (next : Option Prefix) : Type 0 where
  pub before : LeavesWords m (IsOldLeaf m w) ([] ∷ []) done (left_at m.gates next)
  pub after : AreParts m (IsOldLeaf m w) (left_at m.gates next) (reverse left)
  pub feasible : IfSome next (IsFeasiblePrefix m)

-- the same walk where the item of the next prefix is taken out
pub record IsAtItem (m : Market) (w : ℕ) (x : Prefix) (item : TreeItem) (done left : List TreeItem) : Type 0 where
  pub before : LeavesWords m (IsOldLeaf m w) ([] ∷ []) done (left_at m.gates (Some x))
  pub after : AreParts m (IsOldLeaf m w) (left_at m.gates (Some x)) (item ∷ reverse left)
  pub feasible : IsFeasiblePrefix m x

-- the walk one item on, with none more
pub record IsPast (m : Market) (w : ℕ) (done left : List TreeItem) (walk : Cutting) : Type 0 where
  pub goes_on : IsCutting m w walk.done.items walk.left.items walk.next
  pub count : length walk.done.items ≡ length done + 1
  pub no_more : length walk.left.items ≤ length left

-- each of these words is longer than the first one
abbrev pub AreLonger : List Bool → List (List Bool) → Type 0
AreLonger word [] = ⊤
AreLonger word (v ∷ vs) = (length word < length v) × AreLonger word vs

-- among the items that are left stand first parts of words that are longer than this one, and then those of the words
-- that wait after it
pub record IsBelow (m : Market) (w : ℕ) (word : List Bool) (left : List TreeItem) (next : Option Prefix) : Type 0 where
  pub below : List (List Bool)
  pub left_is : left_at m.gates next ≡ below ++ waiting_after m.gates word
  pub longer : AreLonger word below
  pub after : AreParts m (IsOldLeaf m w) (left_at m.gates next) (reverse left)
  pub feasible : IfSome next (IsFeasiblePrefix m)
