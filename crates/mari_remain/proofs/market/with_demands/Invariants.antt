use Rattle.std.proofs.Common.{◌≡◌, ◌++◌, drop, map}
use Rattle.mari_remain.specs.RunMarket.{demand_order}
use Rattle.mari_remain.proofs.market.with_demands.Given as goal

-- with those still to come it is the whole
abbrev pub invariant-loop-demand : goal.invariant-loop-demand
invariant-loop-demand l = l.orders.items ++ map demand_order (drop l.demand-index l.demands) ≡ l.initial.orders.items ++ map demand_order l.demands
