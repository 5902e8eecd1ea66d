use Rattle.std.proofs.Common.{length, arith, ap}
use Rattle.mari_gates.proofs.GateWords.{none_set}
use Rattle.mari_workers.proofs.Closed.{word-closed}
use Rattle.mari_workers.proofs.first.closed_prefix.Goals as goal

pub returns-clause-word : goal.returns-clause-word
returns-clause-word c =
    word-closed _ (length c.args.market.now.gates) (ap length c.as_slice.ensures)
    (λ g l. none_set c.empty_prefix-prefix.result g c.empty_prefix-prefix.ensures.word c.empty_prefix-prefix.ensures.cleared (omega (arith, l, c.requires)))

pub returns-clause-cleared : goal.returns-clause-cleared
returns-clause-cleared c = λ g past l. none_set c.empty_prefix-prefix.result g c.empty_prefix-prefix.ensures.word c.empty_prefix-prefix.ensures.cleared l
