-- A walk through a tree, item by item.
use Rattle.std.proofs.Common.{◌≡◌, Bool, false, ℕ, zero, suc, ◌+◌, ◌<◌, ◌≤◌, List, [], ◌∷◌, ◌++◌, length, take, drop, get_or, Option, Some, None, arith, subst, refl, sym, ap, ◌∙◌}
use Rattle.std.specs.Prelude.{◌↔◌}
use Rattle.std.proofs.lemmas.List.{take_all, take_more, drop_all}
use Rattle.mari_market.specs.declared.market.GateInfo.{GateInfo}
use Rattle.mari_market.specs.declared.market.Market.{Market}
use Rattle.mari_market.specs.declared.prefix.Prefix.{Prefix}
use Rattle.mari_market.specs.declared.certificate.Leaf.{Leaf as LeafRecord}
use Rattle.mari_market.specs.declared.certificate.TreeItem.{TreeItem}
use Rattle.mari_market.specs.declared.certificate.TreeItem.TheVariants.{Branch, Leaf}
use Rattle.mari_market.specs.Prefix.{word_of, children, IsFeasibleWord, IsFeasiblePrefix, IsCleared}
use Rattle.mari_market.specs.Tree.{AreParts}
use Rattle.mari_market.proofs.Prefixes.{closed_child}
use Rattle.mari_gates.proofs.Decisions.{length-decisions}
use Rattle.mari_proofs.specs.declared.trees.TreeVerdict.{TreeVerdict}
use Rattle.mari_proofs.specs.declared.trees.TreeVerdict.TheVariants.{Holds, BadShape, BadLeaf}
use Rattle.mari_proofs.specs.Places.{LeavesWords, ShapeFails, LeafFails, IsBadShape, IsTreeVerdict}
use Rattle.mari_gates.specs.Preorder.{left_at}
use Rattle.mari_proofs.specs.Steps.{FitsItem, IsFullBranch}
use Rattle.mari_gates.proofs.WaitingWords.{first_child}

-- ---- one item

pub full_branch : (m : Market) (x : Prefix) (item : TreeItem) (gates : List GateInfo) → item ≡ Branch → gates ≡ m.gates → length gates ≤ x.length → IsFullBranch m x item
full_branch m x item gates is same l = subst (λ (i : TreeItem). IsFullBranch m x i) (sym is) (at_branch (ap length same))
  where
    at_branch : length gates ≡ length m.gates → length m.gates ≤ length (word_of x)
    at_branch e = omega (arith, e, length-decisions x x.length)

pub branch_fits : (m : Market) (holds : List Bool → LeafRecord → Type 0) (x y : Prefix) (item : TreeItem) (gates : List GateInfo)
    → item ≡ Branch → gates ≡ m.gates → x.length < length gates → IsFeasiblePrefix m x
    → word_of y ≡ word_of x ++ false ∷ [] → IsCleared y → FitsItem m holds x item (Some y) × IsFeasiblePrefix m y
branch_fits m holds x y item gates is same l f child cleared =
    let room : length (word_of x) < length m.gates = omega (arith, ap length same, length-decisions x x.length) in (
      subst (λ (i : TreeItem). FitsItem m holds x i (Some y)) (sym is) (room, first_child m.gates x y child),
      record { word = subst (λ (w : List Bool). IsFeasibleWord m.gates w) (sym child) (closed_child m.gates (word_of x) f.word room); rest = cleared },
    )

fits_leaves : (m : Market) (holds : List Bool → LeafRecord → Type 0) (x : Prefix) (item : TreeItem) (next : Option Prefix)
    → FitsItem m holds x item next → LeavesWords m holds (left_at m.gates (Some x)) (item ∷ []) (left_at m.gates next)
fits_leaves m holds x item next h = grind arith

-- ---- the items so far

pub leaves_append : (m : Market) (holds : List Bool → LeafRecord → Type 0) (words : List (List Bool)) (items more : List TreeItem) (left last : List (List Bool))
    → LeavesWords m holds words items left → LeavesWords m holds left more last
    → LeavesWords m holds words (items ++ more) last
leaves_append m holds words [] more left last h k = subst (λ (ws : List (List Bool)). LeavesWords m holds ws more last) (sym h) k
leaves_append m holds [] (item ∷ items) more left last h k = absurd h
leaves_append m holds (word ∷ words) (Leaf leaf ∷ items) more left last h k = (h.0, leaves_append m holds words items more left last h.1 k)
leaves_append m holds (word ∷ words) (Branch ∷ items) more left last h k = (h.0, leaves_append m holds (children m.gates word ++ words) items more left last h.1 k)

-- a walk's step: one item more that fits
pub walk_more : (m : Market) (holds : List Bool → LeafRecord → Type 0) (items : List TreeItem) (i : ℕ) (d : TreeItem) (x : Prefix) (at next : Option Prefix)
    → i < length items → at ≡ Some x → LeavesWords m holds ([] ∷ []) (take i items) (left_at m.gates at)
    → FitsItem m holds x (get_or items i d) next
    → LeavesWords m holds ([] ∷ []) (take (i + 1) items) (left_at m.gates next)
walk_more m holds items i d x at next h is before fits =
    subst (λ (xs : List TreeItem). LeavesWords m holds ([] ∷ []) xs (left_at m.gates next)) (sym (take_more items i d h))
    (leaves_append m holds ([] ∷ []) (take i items) (get_or items i d ∷ []) (left_at m.gates at) (left_at m.gates next) before
    (subst (λ (o : Option Prefix). LeavesWords m holds (left_at m.gates o) (get_or items i d ∷ []) (left_at m.gates next)) (sym is) (fits_leaves m holds x (get_or items i d) next fits)))

-- ---- the answers

pub ends_too_early : (m : Market) (holds : List Bool → LeafRecord → Type 0) (items : List TreeItem) (i : ℕ) (x : Prefix) (at : Option Prefix)
    → length items ≤ i → at ≡ Some x → LeavesWords m holds ([] ∷ []) (take i items) (left_at m.gates at)
    → IsBadShape m holds items (length items)
ends_too_early m holds items i x at h is before = record {
  within = omega arith;
  left = left_at m.gates at;
  before = subst (λ (xs : List TreeItem). LeavesWords m holds ([] ∷ []) xs (left_at m.gates at)) (take_all i items h ∙ sym (take_all (length items) items (omega arith))) before;
  fails = subst (λ (o : Option Prefix). ShapeFails m (left_at m.gates o) (drop (length items) items)) (sym is)
      (subst (λ (xs : List TreeItem). ShapeFails m (left_at m.gates (Some x)) xs) (sym (drop_all (length items) items (omega arith))) tt);
}

pub none_left : (m : Market) (holds : List Bool → LeafRecord → Type 0) (words : List (List Bool)) (items : List TreeItem) → LeavesWords m holds words items [] → AreParts m holds words items
none_left m holds (word ∷ words) (Leaf leaf ∷ items) h = (h.0, none_left m holds words items h.1)
none_left m holds (word ∷ words) (Branch ∷ items) h = (h.0, none_left m holds (children m.gates word ++ words) items h.1)
none_left m holds _ _ h = grind arith

pub walk_ends : (m : Market) (holds : List Bool → LeafRecord → Type 0) (items : List TreeItem) (i : ℕ) (at : Option Prefix)
    → length items ≤ i → at ≡ None → LeavesWords m holds ([] ∷ []) (take i items) (left_at m.gates at)
    → AreParts m holds ([] ∷ []) items
walk_ends m holds items i at h is before =
    none_left m holds ([] ∷ []) items
    (subst (λ (o : Option Prefix). LeavesWords m holds ([] ∷ []) items (left_at m.gates o)) is
    (subst (λ (xs : List TreeItem). LeavesWords m holds ([] ∷ []) xs (left_at m.gates at)) (take_all i items h) before))

-- ---- a tree that fails at a place doesn't hold

parts_split : (m : Market) (holds : List Bool → LeafRecord → Type 0) (words : List (List Bool)) (items : List TreeItem) (p : ℕ) (left : List (List Bool))
    → AreParts m holds words items → LeavesWords m holds words (take p items) left
    → AreParts m holds left (drop p items)
parts_split m holds words items zero left a h = subst (λ (ws : List (List Bool)). AreParts m holds ws items) h a
parts_split m holds words [] (suc p) left a h = subst (λ (ws : List (List Bool)). AreParts m holds ws []) h a
parts_split m holds [] (item ∷ items) (suc p) left a h = absurd h
parts_split m holds (word ∷ words) (Leaf leaf ∷ items) (suc p) left a h = parts_split m holds words items p left a.1 h.1
parts_split m holds (word ∷ words) (Branch ∷ items) (suc p) left a h = parts_split m holds (children m.gates word ++ words) items p left a.1 h.1

shape_refutes : (m : Market) (holds : List Bool → LeafRecord → Type 0) (left : List (List Bool)) (items : List TreeItem) → AreParts m holds left items → ShapeFails m left items → ⊥
shape_refutes m holds left items a f = grind arith

leaf_refutes : (m : Market) (holds : List Bool → LeafRecord → Type 0) (left : List (List Bool)) (items : List TreeItem) → AreParts m holds left items → LeafFails m holds left items → ⊥
leaf_refutes m holds left items a f = grind arith

-- a verdict that is right says exactly whether the tree holds
pub holds_by_verdict : (m : Market) (holds : List Bool → LeafRecord → Type 0) (items : List TreeItem) (v : TreeVerdict) → IsTreeVerdict m holds items v → (v ≡ Holds) ↔ AreParts m holds ([] ∷ []) items
holds_by_verdict m holds items Holds h = (λ e. h, λ t. refl)
holds_by_verdict m holds items (BadShape p) h = (λ e. absurd (cc), λ t. absurd (shape_refutes m holds h.left (drop p items) (parts_split m holds ([] ∷ []) items p h.left t h.before) h.fails))
holds_by_verdict m holds items (BadLeaf p) h = (λ e. absurd (cc), λ t. absurd (leaf_refutes m holds h.left (drop p items) (parts_split m holds ([] ∷ []) items p h.left t h.before) h.fails))
