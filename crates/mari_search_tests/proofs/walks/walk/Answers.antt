use Rattle.std.proofs.Common.{arith}
use Rattle.mari_gates.proofs.Decisions.{length-decisions}
use Rattle.mari_search_tests.proofs.walks.walk.Goals as goal

pub overflow_cast-prefix : goal.overflow_cast-prefix
overflow_cast-prefix g c = let x = c.loop-prefix.prefix in omega (arith, length-decisions x x.length, c.loop-prefix.invariant.feasible.word.decided, c.requires.few_gates)
