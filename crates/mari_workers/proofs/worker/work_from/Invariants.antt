use Rattle.std.proofs.Common.{◌≡◌}
use Rattle.mari_workers.specs.Root.{IsWorkspaceAt}
use Rattle.mari_workers.specs.Worked.{HoldsBest}
use Rattle.mari_workers.proofs.worker.work_from.Given as goal

abbrev pub invariant-loop : goal.invariant-loop
invariant-loop g l = record {
  can_next : (goal.iterator-loop g).can_next l.iterator';
  is_finite : (goal.iterator-loop g).is_finite l.iterator';
  holds : HoldsBest g.N.SearchName.market g.N.SearchName.incumbent l.worked;
  parts : l.worked.seat.parts ≡ 1;
  workspace : IsWorkspaceAt l.root l.workspace;
}
