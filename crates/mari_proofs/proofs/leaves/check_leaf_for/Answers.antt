use Rattle.std.proofs.Common.{arith}
use Rattle.mari_gates.proofs.WaitingWords.{length_feasible}
use Rattle.mari_proofs.proofs.leaves.check_leaf_for.Goals as goal

pub comes_before-requires-clause-few : goal.comes_before-requires-clause-few
comes_before-requires-clause-few c = omega (arith, length_feasible c.args.market.now c.args.word.now c.requires.word, c.requires.market.few_gates)
