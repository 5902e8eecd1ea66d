use Rattle.std.proofs.Common.{◌≡◌}
use Rattle.mari_market.specs.Prefix.{IsFeasiblePrefix}
use Rattle.mari_workers.proofs.rounding.rounded.Given as goal

abbrev pub invariant-loop-gate : goal.invariant-loop-gate
invariant-loop-gate l = record {
  feasible : IsFeasiblePrefix l.market l.prefix;
  decided : l.prefix.length ≡ l.gate;
}
