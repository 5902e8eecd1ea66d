use Rattle.std.proofs.Common.{◌-◌, length}
use Rattle.mari_workers.specs.Refine.{IsTreeWalk}
use Rattle.mari_workers.proofs.refining.walked.Given as goal

abbrev pub invariant-loop-walk : goal.invariant-loop-walk
invariant-loop-walk l = IsTreeWalk l.market l.aim l.walk.done.items l.walk.left.items l.walk.next

abbrev pub decreases-loop-walk : goal.decreases-loop-walk
decreases-loop-walk l = l.aim.budget - length l.walk.done.items
