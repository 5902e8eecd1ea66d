use Rattle.mari_market.proofs.Ties.{closed_is_first, first_opens_none}
use Rattle.mari_proofs.proofs.laws.closed_first.Goals as goal

pub returns-clause-first : goal.returns-clause-first
returns-clause-first c = λ a h e. closed_is_first c.args.market.now a h e

pub returns-clause-none_open : goal.returns-clause-none_open
returns-clause-none_open c = λ a b h k e w. first_opens_none c.args.market.now a b h k e w
