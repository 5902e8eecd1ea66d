use Rattle.std.proofs.Common.{[], ◌∷◌, take}
use Rattle.std.specs.Prelude.{IfSome}
use Rattle.mari_market.specs.Prefix.{IsFeasiblePrefix}
use Rattle.mari_gates.specs.Preorder.{left_at}
use Rattle.mari_proofs.specs.Places.{LeavesWords}
use Rattle.mari_check.specs.Shapes.{AnyLeaf}
use Rattle.mari_check.proofs.tree.has_shape.Given as goal

-- the items so far are parts of a tree, and what is left begins at the next prefix, which is feasible
abbrev pub invariant-loop-item : goal.invariant-loop-item
invariant-loop-item l = record {
  before : LeavesWords l.market AnyLeaf ([] ∷ []) (take l.item-index l.tree) (left_at l.market.gates l.next);
  feasible : IfSome l.next (IsFeasiblePrefix l.market);
}
