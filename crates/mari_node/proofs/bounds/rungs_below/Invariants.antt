use Rattle.std.proofs.Common.{◌≤◌, length}
use Rattle.mari_node.proofs.bounds.rungs_below.Given as goal

abbrev pub invariant-loop-at : goal.invariant-loop-at
invariant-loop-at l = l.at ≤ length l.ladder

abbrev pub decreases-loop-at : goal.decreases-loop-at
decreases-loop-at l = l.at
