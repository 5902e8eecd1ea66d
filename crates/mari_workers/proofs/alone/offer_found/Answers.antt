use Rattle.mari_workers.specs.Alone.{best_in}
use Rattle.mari_workers.proofs.Visits.{copy_attained, offer_accepted, offered_as}
use Rattle.mari_workers.proofs.alone.offer_found.Goals as goal

pub step-requires-clause-proper : goal.step-requires-clause-proper
step-requires-clause-proper c =
    copy_attained c.args.search.now.tree.market c.in_ok-attained-in-Some.attained c.in-Some.best.now (best_in c.args.finding.now)
    c.in_ok-attained-in-Some.ensures c.in-Some.ensures c.requires.attained

pub step-requires-clause-accepted : goal.step-requires-clause-accepted
step-requires-clause-accepted c = offer_accepted c.args.search.now c.in_ok-attained-in-Some.attained c.requires.facts

pub returns-in_ok-attained-in-Some-clause-offered : goal.returns-in_ok-attained-in-Some-clause-offered
returns-in_ok-attained-in-Some-clause-offered c =
    offered_as c.args.search.now c.step.new.search c.in_ok-attained-in-Some.attained c.in-Some.best.now (best_in c.args.finding.now)
    c.in_ok-attained-in-Some.ensures c.in-Some.ensures c.step.ensures.change
