use Rattle.std.proofs.Common.{◌≡◌, take}
use Rattle.std.specs.List.{sum_by}
use Rattle.mari_market.specs.declared.clearing.Clearing.{Clearing}
use Rattle.mari_islands.proofs.join.welfare_of.Given as goal

-- the sum so far
abbrev pub invariant-loop-clearing : goal.invariant-loop-clearing
invariant-loop-clearing l = l.total ≡ sum_by (λ (c : Clearing). c.welfare) (take l.clearing-index l.clearings)
