use Rattle.std.proofs.Common.{◌≡◌, ℕ, ◌<◌, ◌≤◌, false}
use Rattle.mari_market.specs.Prefix.{bit_of}
use Rattle.mari_gates.proofs.prefixes.is_cleared.Given as goal

abbrev pub invariant-loop-gate : goal.invariant-loop-gate
invariant-loop-gate l = (g : ℕ) → l.prefix.length ≤ g → g < l.gate → bit_of l.prefix g ≡ false
