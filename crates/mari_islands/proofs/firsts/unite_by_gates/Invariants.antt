use Rattle.std.proofs.Common.{ℕ, ◌<◌}
use Rattle.mari_islands.specs.Uniting.{AreSound, StayUnited, UnitesGate}
use Rattle.mari_islands.proofs.firsts.unite_by_gates.Given as goal

-- what the gates so far are bound to is united
abbrev pub invariant-loop-gate : goal.invariant-loop-gate
invariant-loop-gate l = record {
  sound : AreSound l.market l.firsts;
  united : (g : ℕ) → g < l.gate → UnitesGate l.market.gates l.homes l.mates l.firsts g;
  stay : StayUnited l.initial.firsts l.firsts;
}
