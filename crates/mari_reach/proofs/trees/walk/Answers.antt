use Rattle.std.proofs.Common.{◌≡◌, [], ◌∷◌, get_or, subst, List}
use Rattle.std.specs.Prelude.{MatchOption}
use Rattle.mari_market.specs.Prefix.{word_of}
use Rattle.mari_reach.specs.declared.decisions.Decision.{Decision}
use Rattle.mari_reach.specs.declared.decisions.ReachItem.{ReachItem}
use Rattle.mari_reach.specs.declared.decisions.ReachLeaf.{ReachLeaf}
use Rattle.mari_reach.specs.Leaf.{ReachLeafHolds}
use Rattle.mari_reach.specs.Places.{LeafFails, LeafFits, LeavesStates, states_left}
use Rattle.mari_reach.specs.Tree.{AnyLeaf}
use Rattle.mari_reach.proofs.TreeWalk.{ends_too_early, leaves_more, walk_ends, walk_more}
use Rattle.mari_reach.proofs.trees.walk.Goals as goal

pub returns-then-walk : goal.returns-then-walk
returns-then-walk c =
    ends_too_early c.args.market.now c.args.tree.now c.loop-place.place c.loop-place.walk.is_left c.loop-place.walk.path.items
    c.loop-place-test.false c.if-walk.true c.loop-place.invariant.shape

pub returns-in-None : goal.returns-in-None
returns-in-None c =
    walk_ends c.args.market.now (ReachLeafHolds c.args.market.now c.args.cutoff.0 (word_of c.args.word.now)) c.args.tree.now c.loop-place.place c.loop-place.walk.is_left c.loop-place.walk.path.items
    c.loop-place-test.false c.if-walk.false (rw c.in-None.is at c.loop-place.invariant.leaves)

pub returns : goal.returns
returns c = (
  walk_ends c.args.market.now AnyLeaf c.args.tree.now c.loop-place.place c.loop-place.walk.is_left c.loop-place.walk.path.items c.loop-place-test.false c.if-walk.false c.loop-place.invariant.shape,
  rw c.in-Some.is at c.loop-place.invariant.leaves,
)

pub loop-place-preserved : goal.loop-place-preserved
loop-place-preserved c =
    let m = c.args.market.now in
    let holds : List Decision → ReachLeaf → Type 0 = ReachLeafHolds m c.args.cutoff.0 (word_of c.args.word.now) in
    let items = c.args.tree.now in
    let place = c.loop-place.place in
    let item = c.index-tree-place.result in
    let left : List (List Decision) = states_left c.loop-place.walk.is_left c.loop-place.walk.path.items in
    let after : List (List Decision) = states_left c.take.new.self.is_left c.take.new.self.path.items in
    let fits : LeavesStates m AnyLeaf left (get_or items place item ∷ []) after =
    subst (λ (x : ReachItem). LeavesStates m AnyLeaf left (x ∷ []) after) c.index-tree-place.is (c.in_ok-take.ensures.fits c.if-not-branch.false) in
    record {
      shape = walk_more m AnyLeaf items place item left after c.loop-place-test.true c.loop-place.invariant.shape fits;
      decisions = c.in_ok-take.ensures.decisions;
      leaves = leaves_more m holds items place item left after c.loop-place.false_leaf c.first_false-false_leaf.result c.loop-place-test.true fits c.loop-place.invariant.leaves
          c.first_false-false_leaf.ensures.kept
          (λ none. subst (λ (x : ReachItem). MatchOption c.first_false-false_leaf.result (LeafFits m holds left (x ∷ [])) (λ p. (p ≡ place) × LeafFails m holds left (x ∷ [])))
          c.index-tree-place.is (c.first_false-false_leaf.ensures.looked none));
    }
