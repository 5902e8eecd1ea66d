-- A walk through a tree of states, item by item.
use Rattle.std.proofs.Common.{◌≡◌, ℕ, zero, suc, ◌+◌, ◌<◌, ◌≤◌, ℤ, neg_ℤ, ◌≤ℤ◌, List, [], ◌∷◌, ◌++◌, length, take, drop, get_or, arith, refl, sym, ap, ◌∙◌, subst}
use Rattle.std.specs.Prelude.{◌↔◌, IfOk, Result, Ok, Err, Bool, true, false, Option, Some, None, IfSome, MatchOption}
use Rattle.std.proofs.Math.Seq.{drop-cons}
use Rattle.std.specs.List.{All}
use Rattle.std.proofs.lemmas.List.{append_assoc, append-nil, drop_all, take_all, take_more}
use Rattle.std.proofs.lemmas.List.Elements.{All-append, All-head, All-nil, All-push, All-tail}
use Rattle.mari_market.specs.declared.market.Market.{Market}
use Rattle.mari_proofs.specs.declared.trees.TreeVerdict.{TreeVerdict}
use Rattle.mari_proofs.specs.declared.trees.TreeVerdict.TheVariants.{Holds, BadShape, BadLeaf}
use Rattle.mari_reach.specs.declared.decisions.Decision.{Decision}
use Rattle.mari_reach.specs.declared.decisions.Decision.TheVariants.{Above, AtMost, Gate}
use Rattle.mari_reach.specs.declared.decisions.ReachLeaf.{ReachLeaf}
use Rattle.mari_reach.specs.declared.decisions.ReachItem.{ReachItem}
use Rattle.mari_reach.specs.declared.decisions.ReachItem.TheVariants.{Branch, Leaf}
use Rattle.mari_reach.specs.Places.{IsBadShape, IsFalseLeaf, IsReachVerdict, LeafFails, LeafFits, LeavesStates, ShapeFails, second_after, state_with, states_left, waiting_after}
use Rattle.std.proofs.lemmas.Int.{ints}
use Rattle.mari_units.specs.declared.numbers.TheConstants.{CAP}
use Rattle.mari_market.specs.Price.{IsPrice}
use Rattle.mari_reach.specs.declared.decisions.Choice.{Choice}
use Rattle.mari_reach.specs.declared.decisions.Choice.TheVariants.{OfGate, OfPrice}
use Rattle.mari_reach.specs.State.{AreDecisions, IsBetweenPrices, IsDecision, IsLeft, MayBranch, ceiling_at, ceiling_said, children_at, first_of, floor_at, floor_said, high_of, high_said, low_of, low_said, opens, second_of}
use Rattle.mari_reach.specs.Tree.{AnyLeaf, ArePartsOf, HasShape}
use Rattle.mari_reach.proofs.Ranges.{max_from, min_to}

-- ---- one item

leaves_append : (m : Market) (holds : List Decision → ReachLeaf → Type 0) (states : List (List Decision)) (items more : List ReachItem) (left last : List (List Decision))
    → LeavesStates m holds states items left → LeavesStates m holds left more last → LeavesStates m holds states (items ++ more) last
leaves_append m holds states [] more left last h k = subst (λ (xs : List (List Decision)). LeavesStates m holds xs more last) (sym h) k
leaves_append m holds [] (item ∷ items) more left last h k = absurd h
leaves_append m holds (ds ∷ states) (Leaf leaf ∷ items) more left last h k = (h.0, leaves_append m holds states items more left last h.1 k)
leaves_append m holds (ds ∷ states) (Branch choice ∷ items) more left last h k = (h.0, leaves_append m holds (children_at ds choice ++ states) items more left last h.1 k)

-- a walk's step: one item more that fits
pub walk_more : (m : Market) (holds : List Decision → ReachLeaf → Type 0) (items : List ReachItem) (i : ℕ) (d : ReachItem) (left after : List (List Decision))
    → i < length items → LeavesStates m holds ([] ∷ []) (take i items) left
    → LeavesStates m holds left (get_or items i d ∷ []) after
    → LeavesStates m holds ([] ∷ []) (take (i + 1) items) after
walk_more m holds items i d left after l before fits =
    subst (λ (xs : List ReachItem). LeavesStates m holds ([] ∷ []) xs after) (sym (take_more items i d l))
    (leaves_append m holds ([] ∷ []) (take i items) (get_or items i d ∷ []) left after before fits)

-- an item that fits a state, and whose leaf holds there if it is one, is a part of it in the sense given
pub both_fit : (m : Market) (holds : List Decision → ReachLeaf → Type 0) (left : List (List Decision)) (item : ReachItem) (after : List (List Decision))
    → LeavesStates m AnyLeaf left (item ∷ []) after → LeafFits m holds left (item ∷ []) → LeavesStates m holds left (item ∷ []) after
both_fit m holds [] item after h k = absurd h
both_fit m holds (ds ∷ states) (Leaf leaf) after h k = (k, h.1)
both_fit m holds (ds ∷ states) (Branch choice) after h k = h

-- ---- the states that wait

wait_last : (done ds : List Decision) (d : Decision) → waiting_after done (ds ++ d ∷ []) ≡ state_with (done ++ ds) (second_after d) ++ waiting_after done ds
wait_last done [] d =
    ap (λ (xs : List Decision). state_with xs (second_after d)) (sym (append-nil done)) ∙ sym (append-nil (state_with (done ++ []) (second_after d)))
wait_last done (e ∷ ds) d =
    ap (λ (xs : List (List Decision)). xs ++ state_with done (second_after e)) (wait_last (done ++ e ∷ []) ds d)
    ∙ append_assoc (state_with ((done ++ e ∷ []) ++ ds) (second_after d)) (waiting_after (done ++ e ∷ []) ds) (state_with done (second_after e))
    ∙ ap (λ (xs : List Decision). state_with xs (second_after d) ++ (waiting_after (done ++ e ∷ []) ds ++ state_with done (second_after e))) (append_assoc done (e ∷ []) ds)

-- a last decision of a second child leaves nothing to wait
pub wait_second : (ds : List Decision) (d : Decision) → second_after d ≡ None → waiting_after [] (ds ++ d ∷ []) ≡ waiting_after [] ds
wait_second ds d e = wait_last [] ds d ∙ ap (λ (o : Option Decision). state_with ds o ++ waiting_after [] ds) e

-- a last decision of a first child leaves the second child to wait
pub wait_first : (ds : List Decision) (d x : Decision) → second_after d ≡ Some x → waiting_after [] (ds ++ d ∷ []) ≡ (ds ++ x ∷ []) ∷ waiting_after [] ds
wait_first ds d x e = wait_last [] ds d ∙ ap (λ (o : Option Decision). state_with ds o ++ waiting_after [] ds) e

some_same : (a b : Decision) → Some a ≡ Some b → a ≡ b
some_same a b e = cc

-- a second child is the last to wait
none_after : (d x : Decision) → second_after d ≡ Some x → second_after x ≡ None
none_after (Gate g true) x e = absurd (cc)
none_after (Gate g false) x e = ap second_after (sym (some_same (Gate g true) x e))
none_after (AtMost z p) x e = ap second_after (sym (some_same (Above z p) x e))
none_after (Above z p) x e = absurd (cc)

-- where a walk goes on from a first child, the second child is next
pub next_second : (ds : List Decision) (d x : Decision) → second_after d ≡ Some x → states_left true (ds ++ x ∷ []) ≡ waiting_after [] (ds ++ d ∷ [])
next_second ds d x e = ap (λ (xs : List (List Decision)). (ds ++ x ∷ []) ∷ xs) (wait_second ds x (none_after d x e)) ∙ sym (wait_first ds d x e)

-- the second child's decision is of what the first one's is of
second_there : (m : Market) (d x : Decision) → second_after d ≡ Some x → IsDecision m d → IsDecision m x
second_there m (Gate g true) x e h = absurd (cc)
second_there m (Gate g false) x e h = subst (IsDecision m) (some_same (Gate g true) x e) h
second_there m (AtMost z p) x e h = subst (IsDecision m) (some_same (Above z p) x e) h
second_there m (Above z p) x e h = absurd (cc)

-- the last of what holds of all, and the others
all_front : {X : Type 0} (P : X → Type 0) (xs : List X) (x : X) → All P (xs ++ x ∷ []) → All P xs × P x
all_front P [] x a = (All-nil P, All-head P x [] a)
all_front P (y ∷ ys) x a =
    let r = all_front P ys x (All-tail P y (ys ++ x ∷ []) a) in
    (All-append P (y ∷ []) ys (All-push P [] y (All-nil P) (All-head P y (ys ++ x ∷ []) a)) r.0, r.1)

-- a walk that goes on from below a first child comes to the second one
pub go_next : (path rest after : List Decision) (last x : Decision) → path ≡ rest ++ last ∷ [] → second_after last ≡ Some x → after ≡ rest ++ x ∷ []
    → states_left true after ≡ waiting_after [] path
go_next path rest after last x e s f = ap (states_left true) f ∙ next_second rest last x s ∙ sym (ap (waiting_after []) e)

-- and one that goes on from below a second child has the same states to wait for
pub go_up : (path rest : List Decision) (last : Decision) → path ≡ rest ++ last ∷ [] → second_after last ≡ None → waiting_after [] rest ≡ waiting_after [] path
go_up path rest last e s = sym (wait_second rest last s) ∙ sym (ap (waiting_after []) e)

pub all_before : (m : Market) (path rest : List Decision) (last : Decision) → path ≡ rest ++ last ∷ [] → AreDecisions m path → AreDecisions m rest
all_before m path rest last e all = (all_front (IsDecision m) rest last (subst (AreDecisions m) e all)).0

pub next_there : (m : Market) (path rest after : List Decision) (last x : Decision) → path ≡ rest ++ last ∷ [] → second_after last ≡ Some x → after ≡ rest ++ x ∷ []
    → AreDecisions m path → AreDecisions m after
next_there m path rest after last x e s f all =
    let both = all_front (IsDecision m) rest last (subst (AreDecisions m) e all) in
    subst (AreDecisions m) (sym f) (All-push (IsDecision m) rest x both.0 (second_there m last x s both.1))

-- a branch leaves the first child next, and the second one to wait
pub next_first : (ds : List Decision) (choice : Choice) → states_left true (ds ++ first_of choice ∷ []) ≡ children_at ds choice ++ waiting_after [] ds
next_first ds choice = ap (λ (xs : List (List Decision)). (ds ++ first_of choice ∷ []) ∷ xs) (wait_first ds (first_of choice) (second_of choice) (after_first choice))
  where
    after_first : (choice : Choice) → second_after (first_of choice) ≡ Some (second_of choice)
    after_first (OfGate g) = refl
    after_first (OfPrice z p) = refl

-- ---- decisions of gates and prices that are there

first_there : (m : Market) (ds : List Decision) (choice : Choice) → IsLeft m ds choice → (price : (z : ℕ) (p : ℤ) → IsBetweenPrices m ds z p → IsPrice p) → IsDecision m (first_of choice)
first_there m ds (OfGate g) h price = h.there
first_there m ds (OfPrice z p) h price = (h.there, price z p.0 h)

-- a price within the box is within the cap
price_between : (m : Market) (ds : List Decision) (z : ℕ) (p : ℤ) → IsBetweenPrices m ds z p → IsPrice p
price_between m ds z p h =
    let low : neg_ℤ CAP ≤ℤ low_of m ds z = max_from (floor_at (opens m ds) z) (low_said ds z) (neg_ℤ CAP) m.orders (max_from (floor_said z) (neg_ℤ CAP) (neg_ℤ CAP) ds (omega (arith, ints))) in
    let high : high_of m ds z ≤ℤ CAP = min_to (ceiling_at (opens m ds) z) (high_said ds z) CAP m.orders (min_to (ceiling_said z) CAP CAP ds (omega (arith, ints))) in
    record { low = omega (arith, ints, low, h.low); high = omega (arith, ints, high, h.high) }

-- a branch that may stand decides what is there
pub first_child_there : (m : Market) (ds : List Decision) (choice : Choice) → AreDecisions m ds → IsLeft m ds choice → AreDecisions m (ds ++ first_of choice ∷ [])
first_child_there m ds choice g h = All-push (IsDecision m) ds (first_of choice) g (first_there m ds choice h (price_between m ds))

-- a branch that may stand at a state leaves its children
pub branch_fits : (m : Market) (is_left : Bool) (path after : List Decision) (choice : Choice) (d : Decision) → is_left ≡ true → d ≡ first_of choice → after ≡ path ++ d ∷ [] → MayBranch m path choice
    → LeavesStates m AnyLeaf (states_left is_left path) (Branch choice ∷ []) (states_left is_left after)
branch_fits m false path after choice d l e same may = absurd (cc)
branch_fits m true path after choice d l e same may =
    (may, sym (ap (states_left true) (same ∙ ap (λ (x : Decision). path ++ x ∷ []) e) ∙ next_first path choice))

pub branch_there : (m : Market) (path after : List Decision) (choice : Choice) (d : Decision) → d ≡ first_of choice → after ≡ path ++ d ∷ [] → AreDecisions m path
    → MayBranch m path choice → AreDecisions m after
branch_there m path after choice d e same all may = subst (AreDecisions m) (sym (same ∙ ap (λ (x : Decision). path ++ x ∷ []) e)) (first_child_there m path choice all may.left)

-- ---- the answers

at_place : (items : List ReachItem) (i : ℕ) (d : ReachItem) → i < length items → drop i items ≡ get_or items i d ∷ drop (i + 1) items
at_place items i d l = let e : i + 1 ≡ suc i = omega arith in drop-cons items i d l ∙ ap (λ (n : ℕ). get_or items i d ∷ drop n items) (sym e)

pub bad_shape : (m : Market) (items : List ReachItem) (i : ℕ) (d : ReachItem) (left : List (List Decision))
    → i < length items → LeavesStates m AnyLeaf ([] ∷ []) (take i items) left → ShapeFails m left (get_or items i d ∷ []) → IsBadShape m items i
bad_shape m items i d left l before bad = record {
  within = omega arith;
  left = left;
  before = before;
  fails = subst (ShapeFails m left) (sym (at_place items i d l)) (by left (get_or items i d) bad);
}
  where
    by : (left : List (List Decision)) (item : ReachItem) → ShapeFails m left (item ∷ []) → ShapeFails m left (item ∷ drop (i + 1) items)
    by [] item b = tt
    by (ds ∷ states) (Leaf leaf) b = absurd b
    by (ds ∷ states) (Branch choice) b = b

pub false_leaf : (m : Market) (holds : List Decision → ReachLeaf → Type 0) (items : List ReachItem) (i : ℕ) (d : ReachItem) (left : List (List Decision))
    → i < length items → LeavesStates m holds ([] ∷ []) (take i items) left → LeafFails m holds left (get_or items i d ∷ []) → IsFalseLeaf m holds items i
false_leaf m holds items i d left l before bad = record {
  left = left;
  before = before;
  fails = subst (LeafFails m holds left) (sym (at_place items i d l)) (by left (get_or items i d) bad);
}
  where
    by : (left : List (List Decision)) (item : ReachItem) → LeafFails m holds left (item ∷ []) → LeafFails m holds left (item ∷ drop (i + 1) items)
    by [] item b = absurd b
    by (ds ∷ states) (Leaf leaf) b = b
    by (ds ∷ states) (Branch choice) b = absurd b

-- what is known of the leaves, with one item more
pub leaves_more : (m : Market) (holds : List Decision → ReachLeaf → Type 0) (items : List ReachItem) (i : ℕ) (d : ReachItem) (left after : List (List Decision)) (found result : Option ℕ)
    → i < length items → LeavesStates m AnyLeaf left (get_or items i d ∷ []) after
    → MatchOption found (LeavesStates m holds ([] ∷ []) (take i items) left) (λ p. IsFalseLeaf m holds items p)
    → IfSome found (λ p. result ≡ Some p)
    → (found ≡ None → MatchOption result (LeafFits m holds left (get_or items i d ∷ [])) (λ p. (p ≡ i) × LeafFails m holds left (get_or items i d ∷ [])))
    → MatchOption result (LeavesStates m holds ([] ∷ []) (take (i + 1) items) after) (λ p. IsFalseLeaf m holds items p)
leaves_more m holds items i d left after (Some p) result l fits before kept looked =
    subst (λ (r : Option ℕ). MatchOption r (LeavesStates m holds ([] ∷ []) (take (i + 1) items) after) (λ p. IsFalseLeaf m holds items p)) (sym kept) before
leaves_more m holds items i d left after None None l fits before kept looked =
    walk_more m holds items i d left after l before (both_fit m holds left (get_or items i d) after fits (looked refl))
leaves_more m holds items i d left after None (Some q) l fits before kept looked =
    let bad = looked refl in
    subst (IsFalseLeaf m holds items) (sym bad.0) (false_leaf m holds items i d left l before bad.1)

pub none_left : (m : Market) (holds : List Decision → ReachLeaf → Type 0) (states : List (List Decision)) (items : List ReachItem) → LeavesStates m holds states items []
    → ArePartsOf m holds states items
none_left m holds states [] h = subst (λ (xs : List (List Decision)). ArePartsOf m holds xs []) (sym h) tt
none_left m holds [] (item ∷ items) h = absurd h
none_left m holds (ds ∷ states) (Leaf leaf ∷ items) h = (h.0, none_left m holds states items h.1)
none_left m holds (ds ∷ states) (Branch choice ∷ items) h = (h.0, none_left m holds (children_at ds choice ++ states) items h.1)

-- at the end of the items nothing is left
pub walk_ends : (m : Market) (holds : List Decision → ReachLeaf → Type 0) (items : List ReachItem) (i : ℕ) (is_left : Bool) (path : List Decision)
    → length items ≤ i → is_left ≡ false → LeavesStates m holds ([] ∷ []) (take i items) (states_left is_left path) → ArePartsOf m holds ([] ∷ []) items
walk_ends m holds items i true path h none before = absurd (cc)
walk_ends m holds items i false path h none before =
    none_left m holds ([] ∷ []) items (subst (λ (xs : List ReachItem). LeavesStates m holds ([] ∷ []) xs []) (take_all i items h) before)

pub ends_too_early : (m : Market) (items : List ReachItem) (i : ℕ) (is_left : Bool) (path : List Decision)
    → length items ≤ i → is_left ≡ true → LeavesStates m AnyLeaf ([] ∷ []) (take i items) (states_left is_left path) → IsBadShape m items (length items)
ends_too_early m items i false path h some before = absurd (cc)
ends_too_early m items i true path h some before = record {
  within = omega arith;
  left = states_left true path;
  before = subst (λ (xs : List ReachItem). LeavesStates m AnyLeaf ([] ∷ []) xs (states_left true path)) (take_all i items h ∙ sym (take_all (length items) items (omega arith))) before;
  fails = subst (ShapeFails m (states_left true path)) (sym (drop_all (length items) items (omega arith))) tt;
}

-- ---- a tree that fails at a place doesn't hold

parts_split : (m : Market) (holds : List Decision → ReachLeaf → Type 0) (states : List (List Decision)) (items : List ReachItem) (p : ℕ) (left : List (List Decision))
    → ArePartsOf m holds states items → LeavesStates m holds states (take p items) left → ArePartsOf m holds left (drop p items)
parts_split m holds states items zero left a h = subst (λ (xs : List (List Decision)). ArePartsOf m holds xs items) h a
parts_split m holds states [] (suc p) left a h = subst (λ (xs : List (List Decision)). ArePartsOf m holds xs []) h a
parts_split m holds [] (item ∷ items) (suc p) left a h = absurd h
parts_split m holds (ds ∷ states) (Leaf leaf ∷ items) (suc p) left a h = parts_split m holds states items p left a.1 h.1
parts_split m holds (ds ∷ states) (Branch choice ∷ items) (suc p) left a h = parts_split m holds (children_at ds choice ++ states) items p left a.1 h.1

shape_refutes : (m : Market) (holds : List Decision → ReachLeaf → Type 0) (left : List (List Decision)) (items : List ReachItem) → ArePartsOf m holds left items → ShapeFails m left items → ⊥
shape_refutes m holds [] [] a f = f
shape_refutes m holds [] (item ∷ items) a f = a
shape_refutes m holds (ds ∷ states) [] a f = a
shape_refutes m holds (ds ∷ states) (Leaf leaf ∷ items) a f = f
shape_refutes m holds (ds ∷ states) (Branch choice ∷ items) a f = f a.0

leaf_refutes : (m : Market) (holds : List Decision → ReachLeaf → Type 0) (left : List (List Decision)) (items : List ReachItem) → ArePartsOf m holds left items → LeafFails m holds left items → ⊥
leaf_refutes m holds [] items a f = f
leaf_refutes m holds (ds ∷ states) [] a f = f
leaf_refutes m holds (ds ∷ states) (Branch choice ∷ items) a f = f
leaf_refutes m holds (ds ∷ states) (Leaf leaf ∷ items) a f = f a.0

-- parts whose leaves hold are parts whatever their leaves say
any_parts : (m : Market) (holds : List Decision → ReachLeaf → Type 0) (states : List (List Decision)) (items : List ReachItem) → ArePartsOf m holds states items → ArePartsOf m AnyLeaf states items
any_parts m holds [] [] h = tt
any_parts m holds [] (item ∷ items) h = absurd h
any_parts m holds (ds ∷ states) [] h = absurd h
any_parts m holds (ds ∷ states) (Leaf leaf ∷ items) h = (tt, any_parts m holds states items h.1)
any_parts m holds (ds ∷ states) (Branch choice ∷ items) h = (h.0, any_parts m holds (children_at ds choice ++ states) items h.1)

bad_has_none : (m : Market) (items : List ReachItem) (p : ℕ) → IsBadShape m items p → HasShape m items → ⊥
bad_has_none m items p h t = shape_refutes m AnyLeaf h.left (drop p items) (parts_split m AnyLeaf ([] ∷ []) items p h.left t h.before) h.fails

-- a verdict that is right says exactly whether the tree holds
holds_by_verdict : (m : Market) (holds : List Decision → ReachLeaf → Type 0) (items : List ReachItem) (v : TreeVerdict) → IsReachVerdict m holds items v
    → (v ≡ Holds) ↔ ArePartsOf m holds ([] ∷ []) items
holds_by_verdict m holds items Holds h = (λ e. h, λ t. refl)
holds_by_verdict m holds items (BadShape p) h = (λ e. absurd (cc), λ t. absurd (bad_has_none m items p h (any_parts m holds ([] ∷ []) items t)))
holds_by_verdict m holds items (BadLeaf p) h = (λ e. absurd (cc), λ t. absurd (leaf_refutes m holds h.1.left (drop p items) (parts_split m holds ([] ∷ []) items p h.1.left t h.1.before) h.1.fails))

-- and exactly whether its shape fails
shape_by_verdict : (m : Market) (holds : List Decision → ReachLeaf → Type 0) (items : List ReachItem) (v : TreeVerdict) → IsReachVerdict m holds items v
    → ((p : ℕ) → v ≡ BadShape p → ⊥) ↔ HasShape m items
shape_by_verdict m holds items Holds h = (λ n. any_parts m holds ([] ∷ []) items h, λ t p e. absurd (cc))
shape_by_verdict m holds items (BadShape p) h = (λ n. absurd (n p refl), λ t q e. bad_has_none m items p h t)
shape_by_verdict m holds items (BadLeaf p) h = (λ n. h.0, λ t q e. absurd (cc))

-- the same of a verdict where there is one
pub verdicts : {E : Type 0} (m : Market) (holds : List Decision → ReachLeaf → Type 0) (items : List ReachItem) (r : Result TreeVerdict E)
    → IfOk r (IsReachVerdict m holds items) → IfOk r (λ v. (v ≡ Holds) ↔ ArePartsOf m holds ([] ∷ []) items)
verdicts m holds items (Ok v) h = holds_by_verdict m holds items v h
verdicts m holds items (Err e) h = tt

pub shapes : {E : Type 0} (m : Market) (holds : List Decision → ReachLeaf → Type 0) (items : List ReachItem) (r : Result TreeVerdict E)
    → IfOk r (IsReachVerdict m holds items) → IfOk r (λ v. ((p : ℕ) → v ≡ BadShape p → ⊥) ↔ HasShape m items)
shapes m holds items (Ok v) h = shape_by_verdict m holds items v h
shapes m holds items (Err e) h = tt
