use Rattle.std.proofs.Common.{◌≤◌, ◌<◌, ℕ, length}
use Rattle.mari_network.specs.Network.{rung_at}
use Rattle.mari_prices.specs.declared.bounds.End.TheVariants.{Least}
use Rattle.mari_node.specs.Plain.{SetsPlainly}
use Rattle.mari_node.proofs.bounds.plain_least.Given as goal

abbrev pub invariant-loop-at : goal.invariant-loop-at
invariant-loop-at l = record {
  at : l.at ≤ length l.ladder;
  none : (j : ℕ) → l.at ≤ j → j < length l.ladder → SetsPlainly Least l.market l.optimum (rung_at l.ladder j).place → ⊥;
}

abbrev pub decreases-loop-at : goal.decreases-loop-at
decreases-loop-at l = l.at
