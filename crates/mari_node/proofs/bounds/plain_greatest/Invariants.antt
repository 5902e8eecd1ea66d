use Rattle.std.proofs.Common.{◌<◌, ℕ}
use Rattle.mari_network.specs.Network.{rung_at}
use Rattle.mari_prices.specs.declared.bounds.End.TheVariants.{Greatest}
use Rattle.mari_node.specs.Plain.{SetsPlainly}
use Rattle.mari_node.proofs.bounds.plain_greatest.Given as goal

abbrev pub invariant-loop-at : goal.invariant-loop-at
invariant-loop-at l = record {
  none : (j : ℕ) → j < l.at → SetsPlainly Greatest l.market l.optimum (rung_at l.ladder j).place → ⊥;
}
