use Rattle.mari_reach.specs.State.{MayBranch}
use Rattle.mari_reach.proofs.TreeWalk.{branch_fits, branch_there}
use Rattle.mari_reach.proofs.walk.Walk.take_branch.Goals as goal
use Rattle.mari_reach.proofs.walk.Walk.take_branch.Goals.{In_ok-push}

may : (c : In_ok-push) → MayBranch c.args.market.now c.args.self.now.path.items c.args.choice
may c = rw c.as_slice.ensures.value at (c.may_branch.ensures.0 c.if-not-may_branch.false)

pub returns-clause-fits : goal.returns-clause-fits
returns-clause-fits c = λ _. branch_fits c.args.market.now c.args.self.now.is_left c.args.self.now.path.items c.push.new.self.items c.args.choice c.first.result c.requires.left
    c.first.ensures c.in_ok-push.ensures.items (may c)

pub returns-clause-decisions : goal.returns-clause-decisions
returns-clause-decisions c = branch_there c.args.market.now c.args.self.now.path.items c.push.new.self.items c.args.choice c.first.result c.first.ensures
    c.in_ok-push.ensures.items c.requires.decisions (may c)
