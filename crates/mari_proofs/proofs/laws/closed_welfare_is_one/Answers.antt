use Rattle.mari_market.specs.Relaxation.{all_closed}
use Rattle.mari_market.proofs.Surplus.{welfare_at_least_0}
use Rattle.mari_proofs.proofs.Idle.{closed-not-negative, not-negative, one-optimum}
use Rattle.mari_proofs.proofs.laws.closed_welfare_is_one.Goals as goal

pub returns-clause-one : goal.returns-clause-one
returns-clause-one c = λ v w h k. one-optimum c.args.market.now (all_closed c.args.market.now) v w h k

pub returns-clause-closed : goal.returns-clause-closed
returns-clause-closed c = λ w h. closed-not-negative c.args.market.now w h

pub returns-clause-relaxed : goal.returns-clause-relaxed
returns-clause-relaxed c = λ word w closed h. not-negative c.args.market.now word w closed h

pub returns-clause-admissible : goal.returns-clause-admissible
returns-clause-admissible c = λ a h. welfare_at_least_0 c.args.market.now a c.requires h
