-- A walk that cuts a tree back.
use Rattle.std.proofs.Common.{◌≡◌, if◌then◌else◌, Bool, true, false, ℕ, zero, suc, ◌<◌, ◌≤◌, pos, List, [], ◌∷◌, ◌++◌, length, take, reverse, append-nil, append_assoc, Option, Some, None, arith, sym, ap, subst, ◌∙◌, length-append}
use Rattle.std.specs.Prelude.{IfSome, IsSomeAnd}
use Rattle.std.proofs.lemmas.List.{length-take}
use Rattle.mari_market.specs.declared.certificate.Leaf.{Leaf as LeafRecord}
use Rattle.mari_market.specs.declared.certificate.TreeItem.{TreeItem}
use Rattle.mari_market.specs.declared.certificate.TreeItem.TheVariants.{Branch, Leaf}
use Rattle.mari_market.specs.declared.market.GateInfo.{GateInfo}
use Rattle.mari_market.specs.declared.market.Market.{Market}
use Rattle.mari_market.specs.declared.prefix.Prefix.{Prefix}
use Rattle.mari_market.specs.declared.finding.Finding.{Finding}
use Rattle.mari_market.specs.Finding.{IsFinding}
use Rattle.mari_market.specs.Market.{IsValid}
use Rattle.mari_market.specs.Prefix.{word_of, children, may_open, opens_in, IsCleared, IsFeasiblePrefix, IsFeasibleWord}
use Rattle.mari_market.specs.Tree.{AreParts, LeafHolds}
use Rattle.mari_market.proofs.Prefixes.{closed_child}
use Rattle.mari_market.specs.SearchTree.{IsNode}
use Rattle.mari_market.proofs.Search.{AreParts-map}
use Rattle.mari_gates.specs.Preorder.{left_at, opened_child, waiting, waiting_after}
use Rattle.mari_gates.proofs.Decisions.{length-decisions}
use Rattle.mari_gates.proofs.WaitingWords.{first_child}
use Rattle.mari_core.specs.Growth.{closing_leaf}
use Rattle.mari_core.proofs.Settling.{closing_leaf_holds}
use Rattle.mari_proofs.specs.Places.{LeavesWords}
use Rattle.mari_proofs.proofs.TreeWalk.{leaves_append, none_left}
use Rattle.mari_workers.specs.Cutting.{AreLonger, IsAtItem, IsBelow, IsCutting}
use Rattle.mari_workers.specs.Refine.{IsOldLeaf}
use Rattle.mari_workers.proofs.TreeWalks.{nothing_opened, popped, search_parts}

-- what a finding closes its word by holds
pub closed_at : (m : Market) (w : ℕ) (word : List Bool) (f : Finding) (o : Option LeafRecord) → IsFinding m word f
    → length word ≤ length m.gates → o ≡ closing_leaf w f → IfSome o (LeafHolds m (pos w) word)
closed_at m w word f None is l e = tt
closed_at m w word f (Some leaf) is l e = closing_leaf_holds m word w f leaf is l (sym e)

-- ---- one item

-- a leaf takes the place of the item and of what stands below it
pub leaf_done : (m : Market) (w : ℕ) (x : Prefix) (item : TreeItem) (leaf : LeafRecord) (done left new_done new_left : List TreeItem) (next : Option Prefix)
    → IsAtItem m w x item done left → IsOldLeaf m w (word_of x) leaf → new_done ≡ done ++ Leaf leaf ∷ []
    → left_at m.gates next ≡ waiting_after m.gates (word_of x)
    → AreParts m (IsOldLeaf m w) (left_at m.gates next) (reverse new_left) → IfSome next (IsFeasiblePrefix m)
    → IsCutting m w new_done new_left next
leaf_done m w x item leaf done left new_done new_left next h k d there after f = record {
  before = subst (λ (ds : List TreeItem). LeavesWords m (IsOldLeaf m w) ([] ∷ []) ds (left_at m.gates next)) (sym d)
      (leaves_append m (IsOldLeaf m w) ([] ∷ []) done (Leaf leaf ∷ []) (left_at m.gates (Some x)) (left_at m.gates next) h.before (k, sym there));
  after = after;
  feasible = f;
}

-- a leaf that was there stays
pub leaf_kept : (m : Market) (w : ℕ) (x : Prefix) (leaf : LeafRecord) (done left new_done : List TreeItem) (next : Option Prefix)
    → IsAtItem m w x (Leaf leaf) done left → new_done ≡ done ++ Leaf leaf ∷ []
    → left_at m.gates next ≡ waiting_after m.gates (word_of x) → IfSome next (IsFeasiblePrefix m)
    → IsCutting m w new_done left next
leaf_kept m w x leaf done left new_done next h d there f =
    leaf_done m w x (Leaf leaf) leaf done left new_done left next h h.after.0 d there (subst (λ (ws : List (List Bool)). AreParts m (IsOldLeaf m w) ws (reverse left)) (sym there) h.after.1) f

child_feasible : (m : Market) (x y : Prefix) → IsFeasiblePrefix m x → length (word_of x) < length m.gates → word_of y ≡ word_of x ++ false ∷ [] → IsCleared y → IsFeasiblePrefix m y
child_feasible m x y f l e cleared = record { word = subst (IsFeasibleWord m.gates) (sym e) (closed_child m.gates (word_of x) f.word l); rest = cleared }

-- the prefix of a branch is a node, since those below it are
pub node_here : (m : Market) (w : ℕ) (x : Prefix) (done left : List TreeItem) → IsValid m → IsAtItem m w x Branch done left → IsNode m (word_of x)
node_here m w x done left v h =
    let all = search_parts m (left_at m.gates (Some x)) (Branch ∷ reverse left) v
    (AreParts-map m (IsOldLeaf m w) (λ word leaf. IsNode m word) (λ word leaf k. k.node) (left_at m.gates (Some x)) (Branch ∷ reverse left) h.after) in
    all.1.0

-- a branch stays
pub branch_kept : (m : Market) (w : ℕ) (x y : Prefix) (done left new_done : List TreeItem)
    → IsAtItem m w x Branch done left → new_done ≡ done ++ Branch ∷ [] → word_of y ≡ word_of x ++ false ∷ []
    → IsCleared y → IsCutting m w new_done left (Some y)
branch_kept m w x y done left new_done h d e cleared =
    let there : left_at m.gates (Some y) ≡ children m.gates (word_of x) ++ waiting_after m.gates (word_of x) = first_child m.gates x y e in
    record {
      before = subst (λ (ds : List TreeItem). LeavesWords m (IsOldLeaf m w) ([] ∷ []) ds (left_at m.gates (Some y))) (sym d)
          (leaves_append m (IsOldLeaf m w) ([] ∷ []) done (Branch ∷ []) (left_at m.gates (Some x)) (left_at m.gates (Some y)) h.before (h.after.0, sym there));
      after = subst (λ (ws : List (List Bool)). AreParts m (IsOldLeaf m w) ws (reverse left)) (sym there) h.after.1;
      feasible = child_feasible m x y h.feasible h.after.0 e cleared;
    }

-- ---- what stands below a prefix

-- no word is longer than this
abbrev AreWithin : ℕ → List (List Bool) → Type 0
AreWithin n [] = Unit {0}
AreWithin n (w ∷ ws) = (length w ≤ n) × AreWithin n ws

within_both : (n : ℕ) (ws vs : List (List Bool)) → AreWithin n ws → AreWithin n vs → AreWithin n (ws ++ vs)
within_both n [] vs a b = b
within_both n (w ∷ ws) vs a b = (a.0, within_both n ws vs a.1 b)

-- nor is one that waits after a word longer than that
waiting_within : (gates : List GateInfo) (word : List Bool) (k n : ℕ) → k ≤ n → AreWithin n (waiting gates word k)
waiting_within gates word zero n l = tt
waiting_within gates word (suc k) n l =
    within_both n (if opens_in word k then [] else opened_child gates (take k word)) (waiting gates word k) (by_bit (opens_in word k))
    (waiting_within gates word k n (omega arith))
  where
    by_may : (may : Bool) → AreWithin n (if may then (take k word ++ true ∷ []) ∷ [] else [])
    by_may true = (omega (arith, l, length-append (take k word) (true ∷ []), length-take k word), tt)
    by_may false = tt

    by_bit : (b : Bool) → AreWithin n (if b then [] else opened_child gates (take k word))
    by_bit true = tt
    by_bit false = by_may (may_open gates (take k word) (length (take k word)))

-- what waits after a longer word
record AfterLonger (gates : List GateInfo) (word : List Bool) (waits : List (List Bool)) : Type 0 where
  rest : List (List Bool)
  waits_are : waits ≡ rest ++ waiting_after gates word
  longer : AreLonger word rest

next_longer : (gates : List GateInfo) (word w : List Bool) (waits below : List (List Bool)) → length word < length w
    → (w ∷ waits) ≡ below ++ waiting_after gates word → AreLonger word below → AfterLonger gates word waits
next_longer gates word w waits [] l e a = let within : AreWithin (length word) (w ∷ waits) =
    subst (AreWithin (length word)) (sym e) (waiting_within gates word (length word) (length word) (omega arith)) in absurd (omega (arith, l, within.0))
next_longer gates word w waits (v ∷ vs) l e a = record { rest = vs; waits_are = cc; longer = a.1 }

-- and where the next word is no longer none is left below
none_below : (gates : List GateInfo) (word w : List Bool) (waits below : List (List Bool)) → length w ≤ length word
    → (w ∷ waits) ≡ below ++ waiting_after gates word → AreLonger word below → (w ∷ waits) ≡ waiting_after gates word
none_below gates word w waits [] l e a = e
none_below gates word w waits (v ∷ vs) l e a = let same : w ≡ v = cc in absurd (omega (arith, l, a.0, ap length same))

none_left_below : (gates : List GateInfo) (word : List Bool) (below : List (List Bool)) → [] ≡ below ++ waiting_after gates word → [] ≡ waiting_after gates word
none_left_below gates word [] e = e
none_left_below gates word (v ∷ vs) e = absurd (cc)

children_longer : (word w : List Bool) (may : Bool) (words : List (List Bool)) → length word ≤ length w
    → AreLonger word words
    → AreLonger word (((w ++ false ∷ []) ∷ (if may then (w ++ true ∷ []) ∷ [] else [])) ++ words)
children_longer word w true words l a = (omega (arith, l, length-append w (false ∷ [])), (omega (arith, l, length-append w (true ∷ [])), a))
children_longer word w false words l a = (omega (arith, l, length-append w (false ∷ [])), a)

-- below a branch stand its children first
pub below_branch : (m : Market) (w : ℕ) (x y : Prefix) (done left : List TreeItem) → IsAtItem m w x Branch done left
    → word_of y ≡ word_of x ++ false ∷ [] → IsCleared y → IsBelow m w (word_of x) left (Some y)
below_branch m w x y done left h e cleared =
    let there : left_at m.gates (Some y) ≡ children m.gates (word_of x) ++ waiting_after m.gates (word_of x) = first_child m.gates x y e in
    record {
      below = children m.gates (word_of x);
      left_is = there;
      longer =
          subst (AreLonger (word_of x)) (append-nil (children m.gates (word_of x))) (children_longer (word_of x) (word_of x) (may_open m.gates (word_of x) (length (word_of x))) [] (omega arith) tt);
      after = subst (λ (ws : List (List Bool)). AreParts m (IsOldLeaf m w) ws (reverse left)) (sym there) h.after.1;
      feasible = child_feasible m x y h.feasible h.after.0 e cleared;
    }

-- the parts of the next prefix, where its item is taken out
below_taken : (m : Market) (w : ℕ) (word : List Bool) (at : Prefix) (item : TreeItem) (left more : List TreeItem)
    → IsBelow m w word more (Some at) → more ≡ left ++ item ∷ []
    → AreParts m (IsOldLeaf m w) (left_at m.gates (Some at)) (item ∷ reverse left)
below_taken m w word at item left more h e = subst (AreParts m (IsOldLeaf m w) (left_at m.gates (Some at))) (ap reverse e ∙ popped left item) h.after

-- a leaf below is dropped
pub leaf_dropped : (m : Market) (w : ℕ) (word : List Bool) (at : Prefix) (leaf : LeafRecord) (left more : List TreeItem) (next : Option Prefix)
    → IsBelow m w word more (Some at) → more ≡ left ++ Leaf leaf ∷ [] → length word < length (word_of at)
    → left_at m.gates next ≡ waiting_after m.gates (word_of at) → IfSome next (IsFeasiblePrefix m)
    → IsBelow m w word left next
leaf_dropped m w word at leaf left more next h e l there f =
    let after = next_longer m.gates word (word_of at) (waiting_after m.gates (word_of at)) h.below l h.left_is h.longer in
    record {
      below = after.rest;
      left_is = there ∙ after.waits_are;
      longer = after.longer;
      after = subst (λ (ws : List (List Bool)). AreParts m (IsOldLeaf m w) ws (reverse left)) (sym there) (below_taken m w word at (Leaf leaf) left more h e).1;
      feasible = f;
    }

-- a branch below is dropped
pub branch_dropped : (m : Market) (w : ℕ) (word : List Bool) (at y : Prefix) (left more : List TreeItem)
    → IsBelow m w word more (Some at) → more ≡ left ++ Branch ∷ [] → length word < length (word_of at)
    → word_of y ≡ word_of at ++ false ∷ [] → IsCleared y → IsBelow m w word left (Some y)
branch_dropped m w word at y left more h e l child cleared =
    let after = next_longer m.gates word (word_of at) (waiting_after m.gates (word_of at)) h.below l h.left_is h.longer in
    let there : left_at m.gates (Some y) ≡ children m.gates (word_of at) ++ waiting_after m.gates (word_of at) = first_child m.gates at y child in
    let taken = below_taken m w word at Branch left more h e in
    record {
      below = children m.gates (word_of at) ++ after.rest;
      left_is =
          there ∙ ap (λ (ws : List (List Bool)). children m.gates (word_of at) ++ ws) after.waits_are ∙ sym (append_assoc (children m.gates (word_of at)) after.rest (waiting_after m.gates word));
      longer = children_longer word (word_of at) (may_open m.gates (word_of at) (length (word_of at))) after.rest (omega (arith, l)) after.longer;
      after = subst (λ (ws : List (List Bool)). AreParts m (IsOldLeaf m w) ws (reverse left)) (sym there) taken.1;
      feasible = child_feasible m at y h.feasible taken.0 child cleared;
    }

-- a branch below leaves a gate to decide
pub below_room : (m : Market) (w : ℕ) (word : List Bool) (at : Prefix) (left more : List TreeItem) → IsBelow m w word more (Some at) → more ≡ left ++ Branch ∷ [] → length (word_of at) < length m.gates
below_room m w word at left more h e = let taken = below_taken m w word at Branch left more h e in taken.0

pub word_longer : (above at : Prefix) → above.length < at.length → length (word_of above) < length (word_of at)
word_longer above at l = omega (arith, l, length-decisions above above.length, length-decisions at at.length)

-- where no prefix is left, or the next is no longer, nothing stands below
pub ends_below : (m : Market) (w : ℕ) (above at : Prefix) (left : List TreeItem)
    → IsBelow m w (word_of above) left (Some at) → at.length ≤ above.length
    → left_at m.gates (Some at) ≡ waiting_after m.gates (word_of above)
ends_below m w above at left h l =
    none_below m.gates (word_of above) (word_of at) (waiting_after m.gates (word_of at)) h.below
    (omega (arith, l, length-decisions above above.length, length-decisions at at.length)) h.left_is h.longer

pub ends_at_last : (m : Market) (w : ℕ) (word : List Bool) (left : List TreeItem) → IsBelow m w word left None → left_at m.gates None ≡ waiting_after m.gates word
ends_at_last m w word left h = none_left_below m.gates word h.below h.left_is

-- ---- the start

-- at its end all that is done is the tree
pub cutting_ended : (m : Market) (w : ℕ) (done left : List TreeItem) → IsCutting m w done left None → AreParts m (IsOldLeaf m w) ([] ∷ []) done
cutting_ended m w done left h = none_left m (IsOldLeaf m w) ([] ∷ []) done h.before
