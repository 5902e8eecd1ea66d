use Rattle.std.proofs.Common.{◌-◌, length}
use Rattle.mari_market.specs.Prefix.{IsFeasiblePrefix}
use Rattle.mari_paths.specs.Warm.{IsWorkspaceOf}
use Rattle.mari_search_tests.proofs.walks.walk.Given as goal

abbrev pub invariant-loop-prefix : goal.invariant-loop-prefix
invariant-loop-prefix g l = record {
  feasible : IsFeasiblePrefix l.market l.prefix;
  workspace : IsWorkspaceOf l.warm l.workspace;
}

abbrev pub decreases-loop-prefix : goal.decreases-loop-prefix
decreases-loop-prefix g l = length l.market.gates - l.prefix.length
