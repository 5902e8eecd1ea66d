-- A walk through the shape of a tree.
use Rattle.std.proofs.Common.{◌≡◌, Bool, true, false, ℕ, suc, ◌<◌, ◌≤◌, List, [], ◌∷◌, length, take, drop, get_or, Option, Some, None, arith, refl, sym, subst, drop-cons}
use Rattle.std.specs.Prelude.{◌↔◌, is_some, not}
use Rattle.std.proofs.lemmas.Bool.{false≢true}
use Rattle.mari_market.specs.declared.certificate.TreeItem.{TreeItem}
use Rattle.mari_market.specs.declared.certificate.TreeItem.TheVariants.{Branch, Leaf}
use Rattle.mari_market.specs.declared.market.GateInfo.{GateInfo}
use Rattle.mari_market.specs.declared.market.Market.{Market}
use Rattle.mari_market.specs.declared.prefix.Prefix.{Prefix}
use Rattle.mari_market.specs.Prefix.{word_of}
use Rattle.mari_gates.specs.Preorder.{left_at, waiting_after}
use Rattle.mari_gates.proofs.Decisions.{length-decisions}
use Rattle.mari_proofs.specs.Places.{IsBadShape, LeavesWords, ShapeFails}
use Rattle.mari_proofs.specs.Steps.{IsFullBranch}
use Rattle.mari_proofs.specs.declared.trees.TreeVerdict.TheVariants.{BadShape, Holds}
use Rattle.mari_proofs.proofs.TreeWalk.{ends_too_early, holds_by_verdict, walk_ends}
use Rattle.mari_check.specs.Shapes.{AnyLeaf, HasShape}

-- an item is a branch where every gate is decided, or not
pub full-is : (m : Market) (x : Prefix) (gates : List GateInfo) → gates ≡ m.gates → IsFullBranch m x Branch → length gates ≤ x.length
full-is m x gates same h = omega (arith, h, length-decisions x x.length, length-same)
  where
    length-same : length gates ≡ length m.gates
    length-same = let P : List GateInfo → Type 0 = λ gs. length gs ≡ length m.gates in subst P (sym same) refl

pub not-full : (m : Market) (x : Prefix) (item : TreeItem) → item ≡ Branch → (IsFullBranch m x item → ⊥) → IsFullBranch m x Branch → ⊥
not-full m x item is other h = other (subst (IsFullBranch m x) (sym is) h)

pub room-left : (m : Market) (x : Prefix) (item : TreeItem) → item ≡ Branch → (IsFullBranch m x item → ⊥) → x.length < length m.gates
room-left m x item is other = omega (arith, below)
  where
    below : length m.gates ≤ x.length → ⊥
    below l = not-full m x item is other (omega (arith, l, length-decisions x x.length))

module _ (m : Market) (items : List TreeItem) where
  no-shape : (place : ℕ) → IsBadShape m AnyLeaf items place → (false ≡ true) ↔ HasShape m items
  no-shape place bad =
      let verdict = holds_by_verdict m AnyLeaf items (BadShape place) bad in
      (λ t. absurd (false≢true t), λ h. absurd (let e : BadShape place ≡ Holds = verdict.1 h in cc))

  module _ (i : ℕ) (d : TreeItem) (l : i < length items) where
    fails-at : (left : List (List Bool)) → LeavesWords m AnyLeaf ([] ∷ []) (take i items) left → ShapeFails m left (get_or items i d ∷ drop (suc i) items) → (false ≡ true) ↔ HasShape m items
    fails-at left before fails = no-shape i (record { within = omega (arith, l); left = left; before = before; fails = rw (drop-cons items i d) fails })

    -- an item that is left over
    pub left-over : (at : Option Prefix) → at ≡ None → LeavesWords m AnyLeaf ([] ∷ []) (take i items) (left_at m.gates at) → (false ≡ true) ↔ HasShape m items
    left-over at is before = fails-at [] (let P : Option Prefix → Type 0 = λ o. LeavesWords m AnyLeaf ([] ∷ []) (take i items) (left_at m.gates o) in subst P is before) tt

    full-fails : (x : Prefix) (item : TreeItem) (ws : List (List Bool)) → IsFullBranch m x item → ShapeFails m (word_of x ∷ ws) (item ∷ drop (suc i) items)
    full-fails x (Leaf leaf) ws h = h
    full-fails x Branch ws h = h

    -- a branch where every gate is decided
    pub branch-fails : (x : Prefix) (at : Option Prefix) → at ≡ Some x
        → LeavesWords m AnyLeaf ([] ∷ []) (take i items) (left_at m.gates at) → IsFullBranch m x (get_or items i d)
        → (false ≡ true) ↔ HasShape m items
    branch-fails x at is before full =
        fails-at (left_at m.gates (Some x)) (let P : Option Prefix → Type 0 = λ o. LeavesWords m AnyLeaf ([] ∷ []) (take i items) (left_at m.gates o) in subst P is before)
        (full-fails x (get_or items i d) (waiting_after m.gates (word_of x)) full)

  -- after the last item
  pub at-end : (i : ℕ) (at : Option Prefix) (none : Bool) → length items ≤ i
      → LeavesWords m AnyLeaf ([] ∷ []) (take i items) (left_at m.gates at) → is_some at ≡ not none
      → (none ≡ true) ↔ HasShape m items
  at-end i None true l before e = (λ t. walk_ends m AnyLeaf items i None l refl before, λ s. refl)
  at-end i None false l before e = absurd (cc e)
  at-end i (Some x) true l before e = absurd (cc e)
  at-end i (Some x) false l before e = no-shape (length items) (ends_too_early m AnyLeaf items i x (Some x) l refl before)
