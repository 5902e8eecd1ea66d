use Rattle.std.proofs.Common.{◌≡◌}
use Rattle.mari_market.specs.Prefix.{word_of, IsFeasiblePrefix}
use Rattle.mari_gates.specs.Preorder.{waiting_after}
use Rattle.mari_gates.proofs.preorder.next_after.Given as goal

abbrev pub invariant-loop-at : goal.invariant-loop-at
invariant-loop-at l = record {
  left : waiting_after l.market.gates (word_of l.prefix) ≡ waiting_after l.market.gates (word_of l.at);
  feasible : IsFeasiblePrefix l.market l.at;
}

abbrev pub decreases-loop-at : goal.decreases-loop-at
decreases-loop-at l = l.at.length
