use Rattle.std.proofs.Common.{◌≡◌, ℕ, ◌<◌, true, Some}
use Rattle.mari_market.specs.Gates.{group_of}
use Rattle.mari_market.specs.Prefix.{bit_of}
use Rattle.mari_gates.proofs.prefixes.takes_group.Given as goal

-- no gate so far is open and of the group
abbrev pub invariant-loop-gate : goal.invariant-loop-gate
invariant-loop-gate l = (g : ℕ) → g < l.gate → bit_of l.prefix g ≡ true → group_of l.gates g ≡ Some l.group → ⊥
