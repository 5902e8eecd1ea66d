use Rattle.std.proofs.Common.{pos}
use Rattle.mari_workers.proofs.Closed.{closed_gates, closed_one, closed_welfare}
use Rattle.mari_workers.proofs.first.first_of.Goals as goal

pub returns-clause-closed : goal.returns-clause-closed
returns-clause-closed c = closed_welfare c.args.market.now c.in_ok-closed.closed c.in_ok-closed.ensures

pub returns-clause-gates : goal.returns-clause-gates
returns-clause-gates c = closed_gates c.args.market.now c.in_ok-closed.closed c.in_ok-closed.ensures

pub returns-clause-one : goal.returns-clause-one
returns-clause-one c w is = closed_one c.args.market.now w (pos c.in_ok-closed.closed.first.welfare) is (closed_welfare c.args.market.now c.in_ok-closed.closed c.in_ok-closed.ensures)
