use Rattle.std.proofs.Common.{[], ◌∷◌, take}
use Rattle.std.specs.Prelude.{MatchOption}
use Rattle.mari_market.specs.Prefix.{word_of}
use Rattle.mari_reach.specs.Leaf.{ReachLeafHolds}
use Rattle.mari_reach.specs.Places.{IsFalseLeaf, LeavesStates, states_left}
use Rattle.mari_reach.specs.State.{AreDecisions}
use Rattle.mari_reach.specs.Tree.{AnyLeaf}
use Rattle.mari_reach.proofs.trees.walk.Given as goal

-- the items so far are parts of a tree, whose leaves hold if none was found that doesn't
abbrev pub invariant-loop-place : goal.invariant-loop-place
invariant-loop-place l = record {
  shape : LeavesStates l.market AnyLeaf ([] ∷ []) (take l.place l.tree) (states_left l.walk.is_left l.walk.path.items);
  decisions : AreDecisions l.market l.walk.path.items;
  leaves : MatchOption l.false_leaf
      (LeavesStates l.market (ReachLeafHolds l.market l.cutoff.0 (word_of l.word)) ([] ∷ []) (take l.place l.tree) (states_left l.walk.is_left l.walk.path.items))
      (λ p. IsFalseLeaf l.market (ReachLeafHolds l.market l.cutoff.0 (word_of l.word)) l.tree p);
}
