use Rattle.mari_workers.specs.Root.{IsWorkspaceAt}
use Rattle.mari_workers.proofs.Visits.{IsStill, still_left}
use Rattle.mari_workers.proofs.alone.visit_all.Given as goal

abbrev pub invariant-loop-node : goal.invariant-loop-node
invariant-loop-node l = record {
  still : IsStill l.market l.initial.search.tree.budget l.search l.queue;
  workspace : IsWorkspaceAt l.root l.workspace;
}

abbrev pub decreases-loop-node : goal.decreases-loop-node
decreases-loop-node l = still_left l.initial.search.tree.budget l.search l.queue
