use Rattle.mari_reach.proofs.Exchanges.{Exchange, moved_ahead, moved_consistent, moved_feasible, out_of_rank}
use Rattle.mari_reach.proofs.Repeated.{keeps_rank}
use Rattle.mari_reach.proofs.TwinTests.{opened_by_rank, outranks_exactly, shut_by_rank}
use Rattle.mari_reach.proofs.laws.twins.Goals as goal

pub returns-clause-outranks : goal.returns-clause-outranks
returns-clause-outranks c = λ g h. outranks_exactly c.args.market.now g h c.requires

pub returns-clause-opened : goal.returns-clause-opened
returns-clause-opened c = λ ds g h rank e. opened_by_rank c.args.market.now ds g h c.requires rank e

pub returns-clause-shut : goal.returns-clause-shut
returns-clause-shut c = λ ds g h rank e. shut_by_rank c.args.market.now ds g h c.requires rank e

pub returns-clause-exchanged : goal.returns-clause-exchanged
returns-clause-exchanged c = λ a ps g h i j t rank opened closed f k.
    let m = c.args.market.now in
    let x : Exchange m a ps g h i j = record { valid = c.requires; twins = t; feasible = f; consistent = k; opened = opened; closed = closed } in
    (moved_feasible m a ps g h i j x, (moved_consistent m a ps g h i j x rank, moved_ahead m a ps g h i j x rank))

pub returns-clause-first : goal.returns-clause-first
returns-clause-first c = λ a g h i j t rank opened closed f. out_of_rank c.args.market.now a g h i j c.requires t rank opened closed f

pub returns-clause-kept : goal.returns-clause-kept
returns-clause-kept c = λ a ps f k. keeps_rank c.args.market.now ps a c.requires f k
