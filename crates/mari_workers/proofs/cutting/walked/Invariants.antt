use Rattle.std.proofs.Common.{◌+◌, ◌≤◌, length}
use Rattle.mari_workers.specs.Cutting.{IsCutting}
use Rattle.mari_workers.proofs.cutting.walked.Given as goal

abbrev pub invariant-loop-walk : goal.invariant-loop-walk
invariant-loop-walk l = record {
  walk : IsCutting l.market l.welfare l.walk.done.items l.walk.left.items l.walk.next;
  within : length l.walk.done.items + length l.walk.left.items ≤ length l.initial.walk.done.items + length l.initial.walk.left.items;
}

abbrev pub decreases-loop-walk : goal.decreases-loop-walk
decreases-loop-walk l = length l.walk.left.items
