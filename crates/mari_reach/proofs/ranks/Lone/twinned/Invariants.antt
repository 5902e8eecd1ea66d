use Rattle.std.proofs.Common.{◌<◌, ◌≤◌, ℕ}
use Rattle.mari_reach.specs.Tables.{AreMarked}
use Rattle.mari_reach.proofs.ranks.Lone.twinned.Given as goal

abbrev pub invariant-loop-gate : goal.invariant-loop-gate
invariant-loop-gate l = (g h : ℕ) → g < l.gate → h ≤ g → AreMarked l.self l.twinned g h
