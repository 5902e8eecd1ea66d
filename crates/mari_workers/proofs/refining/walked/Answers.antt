use Rattle.std.proofs.Common.{length, subst, Option}
use Rattle.mari_market.specs.declared.prefix.Prefix.{Prefix}
use Rattle.mari_workers.specs.Refine.{IsTreeWalk, IsTurn}
use Rattle.mari_workers.proofs.refining.walked.Goals as goal

pub returns-in-Full : goal.returns-in-Full
returns-in-Full c = (c.in-Some.prefix, subst (IsTurn c.args.market.now c.args.aim.now c.in-Some.prefix (length c.loop-walk.walk.done.items) c.advance.new.self) c.in-Full.is c.in_ok-advance.ensures)

pub returns-in-Yield : goal.returns-in-Yield
returns-in-Yield c = (c.in-Some.prefix, subst (IsTurn c.args.market.now c.args.aim.now c.in-Some.prefix (length c.loop-walk.walk.done.items) c.advance.new.self) c.in-Yield.is c.in_ok-advance.ensures)

pub returns : goal.returns
returns c =
    let walk = c.loop-walk.walk in
    subst (λ (next : Option Prefix). IsTreeWalk c.args.market.now c.args.aim.now walk.done.items walk.left.items next) c.in_default.is c.loop-walk.invariant
