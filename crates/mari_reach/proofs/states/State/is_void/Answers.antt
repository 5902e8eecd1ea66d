use Rattle.mari_reach.proofs.StateTables.{void_answer}
use Rattle.mari_reach.proofs.states.State.is_void.Goals as goal

pub returns-clause-there : goal.returns-clause-there
returns-clause-there c = λ ds h. void_answer c.args.market.now ds c.args.self.now c.contradicts.result h c.contradicts.ensures
