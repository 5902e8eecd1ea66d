use Rattle.std.proofs.Common.{◌-◌, ◌≤◌, length}
use Rattle.mari_pool.specs.Queued.{IsMore}
use Rattle.mari_workers.proofs.alone.admit.Given as goal

abbrev pub invariant-loop-queue : goal.invariant-loop-queue
invariant-loop-queue l = record {
  more : IsMore l.key (length l.queue.keys - length l.initial.queue.keys) l.initial.queue l.queue;
  longer : length l.initial.queue.keys ≤ length l.queue.keys;
  made : length l.queue.keys ≤ length l.search.tree.nodes;
}

abbrev pub decreases-loop-queue : goal.decreases-loop-queue
decreases-loop-queue l = length l.search.tree.nodes - length l.queue.keys
