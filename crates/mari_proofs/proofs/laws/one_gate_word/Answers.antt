use Rattle.mari_market.proofs.Conflicts.{one_word}
use Rattle.mari_proofs.proofs.laws.one_gate_word.Goals as goal

pub returns-clause-welfare : goal.returns-clause-welfare
returns-clause-welfare c = λ a b adm other e. (one_word c.args.market.now a b adm.consistent.0 c.requires e adm.feasible adm.consistent.1 other).0

pub returns-clause-prices : goal.returns-clause-prices
returns-clause-prices c = λ a b adm other e ps h. (one_word c.args.market.now a b ps c.requires e adm.feasible h other).1
