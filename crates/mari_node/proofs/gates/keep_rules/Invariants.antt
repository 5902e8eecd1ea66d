use Rattle.std.proofs.Common.{◌≡◌}
use Rattle.mari_market.specs.Prefix.{word_of, IsFeasiblePrefix, opens_in}
use Rattle.mari_market.proofs.Words.{Begins}
use Rattle.mari_node.proofs.gates.keep_rules.Given as goal

abbrev pub invariant-loop-gate : goal.invariant-loop-gate
invariant-loop-gate l = record {
  decided : l.word.length ≡ l.gate;
  feasible : IsFeasiblePrefix l.market l.word;
  begun : Begins (word_of l.word) (opens_in l.runs);
}
