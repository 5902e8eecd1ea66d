-- What each turn of a walk does, as its calls state it.
use Rattle.std.proofs.Common.{◌≡◌, if◌then◌else◌, Bool, true, false, ℕ, ◌+◌, ◌≤◌, pos, List, [], ◌∷◌, ◌++◌, length, reverse, Option, Some, None, arith, sym, ap, subst, ◌∙◌, length-append}
use Rattle.std.specs.Prelude.{IfSome, IsSomeAnd}
use Rattle.std.proofs.lemmas.List.{length-reverse}
use Rattle.mari_market.specs.declared.certificate.Leaf.{Leaf as LeafRecord}
use Rattle.mari_market.specs.declared.certificate.TreeItem.{TreeItem}
use Rattle.mari_market.specs.declared.certificate.TreeItem.TheVariants.{Branch, Leaf}
use Rattle.mari_market.specs.declared.clearing.Clearing.{Clearing}
use Rattle.mari_market.specs.declared.market.Market.{Market}
use Rattle.mari_market.specs.declared.prefix.Prefix.{Prefix}
use Rattle.mari_market.specs.Market.{IsValid}
use Rattle.mari_market.specs.Prefix.{word_of, children, IsFeasiblePrefix, IsFeasibleWord, IsCleared}
use Rattle.mari_market.specs.Tree.{AreParts, LeafHolds, LeafHoldsFor}
use Rattle.mari_market.proofs.Prefixes.{closed_child}
use Rattle.mari_gates.specs.Preorder.{left_at, waiting_after}
use Rattle.mari_proofs.specs.Places.{LeavesWords}
use Rattle.mari_workers.specs.declared.fate.Aim.{Aim}
use Rattle.mari_workers.specs.Refine.{IsAim, IsAtLeaf, IsNewLeaf, IsOldLeaf, IsToBranch, IsTreeWalk, MayRefine}
use Rattle.mari_workers.proofs.TreeWalks.{branch_done, branch_room, child_leaves, leaf_branched, leaf_done, nothing_opened, old_leaves}

-- the next prefix is the closed child of this one
abbrev pub IsDescended : Prefix → Option Prefix → Type 0
IsDescended x next = IsSomeAnd next (λ y. (word_of y ≡ word_of x ++ false ∷ []) × IsCleared y)

descended_feasible : (m : Market) (x y : Prefix) → IsFeasibleWord m.gates (word_of x ++ false ∷ []) → word_of y ≡ word_of x ++ false ∷ [] → IsCleared y → IsFeasiblePrefix m y
descended_feasible m x y f e cleared = record { word = subst (IsFeasibleWord m.gates) (sym e) f; rest = cleared }

-- ---- a branch of the tree

pub turned_branch : (m : Market) (aim : Aim) (x : Prefix) (done left new_done new_left more : List TreeItem) (next : Option Prefix)
    → IsTreeWalk m aim done more (Some x) → more ≡ left ++ Branch ∷ [] → new_done ≡ done ++ Branch ∷ []
    → new_left ≡ left → IsDescended x next
    → IsTreeWalk m aim new_done new_left next × (length new_done ≡ length done + 1)
turned_branch m aim x done left new_done new_left more None h e d l n = absurd n
turned_branch m aim x done left new_done new_left more (Some y) h e d l n =
    let f : IsFeasibleWord m.gates (word_of x ++ false ∷ []) = closed_child m.gates (word_of x) h.feasible.word (branch_room m aim x done left more h e) in
    let walk : IsTreeWalk m aim (done ++ Branch ∷ []) left (Some y) = branch_done m aim x y done left more (descended_feasible m x y f n.0 n.1) n.0 h e in (
      subst (λ (ls : List TreeItem). IsTreeWalk m aim new_done ls (Some y)) (sym l) (subst (λ (ds : List TreeItem). IsTreeWalk m aim ds left (Some y)) (sym d) walk),
      ap length d ∙ omega (arith, length-append done (Branch ∷ [])),
    )

-- ---- a leaf that stays

pub turned_leaf : (m : Market) (aim : Aim) (x : Prefix) (old leaf : LeafRecord) (done left new_done : List TreeItem) (next : Option Prefix)
    → IsAtLeaf m aim x old done left → LeafHoldsFor m (pos aim.welfare) (word_of aim.word) (word_of x) leaf
    → left_at m.gates next ≡ waiting_after m.gates (word_of x) → IfSome next (IsFeasiblePrefix m)
    → new_done ≡ done ++ Leaf leaf ∷ [] → IsTreeWalk m aim new_done left next × (length new_done ≡ length done + 1)
turned_leaf m aim x old leaf done left new_done next h k there f e = (
  subst (λ (ds : List TreeItem). IsTreeWalk m aim ds left next) (sym e) (leaf_done m aim x old leaf done left next h k there f),
  ap length e ∙ omega (arith, length-append done (Leaf leaf ∷ [])),
)

-- ---- a leaf that branches

pub turned_branched : (m : Market) (aim : Aim) (x : Prefix) (old leaf : LeafRecord) (may : Bool) (done left new_done new_left : List TreeItem) (next : Option Prefix)
    → IsValid m → IsAim m aim → IsAtLeaf m aim x old done left
    → IsToBranch m aim.welfare (word_of aim.word) (word_of x) leaf
    → IsFeasibleWord m.gates (word_of x ++ false ∷ []) → (may ≡ true → IsFeasibleWord m.gates (word_of x ++ true ∷ [])) → children m.gates (word_of x)
    ≡ (word_of x ++ false ∷ []) ∷ (if may then (word_of x ++ true ∷ []) ∷ [] else [])
    → length done + length left + 1 + (if may then 2 else 1) ≤ aim.budget → new_done ≡ done ++ Branch ∷ [] → new_left ≡ left ++ child_leaves leaf may
    → IsDescended x next → IsTreeWalk m aim new_done new_left next × (length new_done ≡ length done + 1)
turned_branched m aim x old leaf may done left new_done new_left None v k h t f g kids fits d l n = absurd n
turned_branched m aim x old leaf may done left new_done new_left (Some y) v k h t f g kids fits d l n = (
  subst (λ (ds : List TreeItem). IsTreeWalk m aim ds new_left (Some y)) (sym d)
      (leaf_branched m aim x y old leaf may done left new_left v k h t f g kids (descended_feasible m x y f n.0 n.1) n.0 l fits),
  ap length d ∙ omega (arith, length-append done (Branch ∷ [])),
)

-- ---- the start

-- the walk at its start
pub walk_started : (m : Market) (aim : Aim) (budget : ℕ) (found : Clearing) (done left : List TreeItem) (next : Option Prefix)
    → MayRefine m budget found → aim.welfare ≡ found.welfare → aim.budget ≡ budget → done ≡ []
    → reverse left ≡ found.tree → IsSomeAnd next (λ x. (word_of x ≡ []) × IsCleared x)
    → IsTreeWalk m aim done left next
walk_started m aim budget found done left None h w b d l n = absurd n
walk_started m aim budget found done left (Some x) h w b d l n =
    let all : AreParts m (IsOldLeaf m aim.welfare) ([] ∷ []) found.tree =
    old_leaves m aim.welfare ([] ∷ []) found.tree (subst (λ (u : ℕ). AreParts m (LeafHolds m (pos u)) ([] ∷ []) found.tree) (sym w) h.clearing.tree) h.nodes in
    let first : left_at m.gates (Some x) ≡ [] ∷ [] = ap (λ (u : List Bool). u ∷ waiting_after m.gates u) n.0 in
    record {
      before = subst (λ (ds : List TreeItem). LeavesWords m (IsNewLeaf m aim.welfare (word_of aim.word)) ([] ∷ []) ds (left_at m.gates (Some x))) (sym d) (sym first);
      after = subst (λ (ws : List (List Bool)). AreParts m (IsOldLeaf m aim.welfare) ws (reverse left)) (sym first) (subst (AreParts m (IsOldLeaf m aim.welfare) ([] ∷ [])) (sym l) all);
      feasible = record { word = subst (IsFeasibleWord m.gates) (sym n.0) (nothing_opened m.gates); rest = n.1 };
      within = omega (arith, b, ap length d, ap length l, length-reverse left, h.clearing.within_budget);
    }
