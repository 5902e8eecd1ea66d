use Rattle.std.proofs.Common.{[], ◌∷◌, take}
use Rattle.std.specs.Prelude.{IfSome}
use Rattle.mari_market.specs.Prefix.{word_of, IsFeasiblePrefix}
use Rattle.mari_market.specs.Tree.{LeafHoldsFor}
use Rattle.mari_gates.specs.Preorder.{left_at}
use Rattle.mari_proofs.specs.Places.{LeavesWords}
use Rattle.mari_proofs.proofs.trees.walk.Given as goal

-- the items so far are parts of the tree, and what is left begins at the next prefix, which is feasible
abbrev pub invariant-loop-place : goal.invariant-loop-place
invariant-loop-place l = record {
  before : LeavesWords l.market (LeafHoldsFor l.market l.cutoff.0 (word_of l.word)) ([] ∷ []) (take l.place l.tree) (left_at l.market.gates l.next);
  feasible : IfSome l.next (IsFeasiblePrefix l.market);
}
