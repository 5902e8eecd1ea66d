use Rattle.std.proofs.Common.{ℕ, ◌<◌}
use Rattle.mari_market.specs.Market.{IsValidGate}
use Rattle.mari_market.proofs.market.Market.gates_fit.Given as goal

-- the gates before this one are valid
abbrev pub invariant-loop-gate : goal.invariant-loop-gate
invariant-loop-gate l = (g : ℕ) → g < l.gate → IsValidGate l.self g
