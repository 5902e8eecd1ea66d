use Rattle.std.proofs.Common.{◌≡◌, length}
use Rattle.mari_market.specs.Prefix.{word_of}
use Rattle.mari_gates.specs.GateTable.{AreStatesBelow}
use Rattle.mari_gates.proofs.states.states_at.Given as goal

abbrev pub invariant-loop-gate : goal.invariant-loop-gate
invariant-loop-gate l = record {
  size : length l.states ≡ 512;
  below : AreStatesBelow l.gates (word_of l.prefix) l.states l.gate;
}
