use Rattle.std.proofs.Common.{length}
use Rattle.mari_workers.proofs.bounds.BranchBounds.rewind.Given as goal

abbrev pub decreases-loop-bound : goal.decreases-loop-bound
decreases-loop-bound l = length l.self.done.items
