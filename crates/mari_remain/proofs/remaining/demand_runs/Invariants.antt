use Rattle.std.proofs.Common.{◌≡◌, ◌++◌, drop, map}
use Rattle.mari_demands.specs.declared.demands.Demand.{Demand}
use Rattle.mari_remain.proofs.remaining.demand_runs.Given as goal

-- with those still to come it is the whole
abbrev pub invariant-loop-demand : goal.invariant-loop-demand
invariant-loop-demand l = l.runs.items ++ map (λ (d : Demand). d.run) (drop l.demand-index l.demands) ≡ map (λ (d : Demand). d.run) l.demands
