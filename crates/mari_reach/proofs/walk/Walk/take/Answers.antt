use Rattle.mari_reach.proofs.walk.Walk.take.Goals as goal

pub returns-in_ok-self-in-Leaf-clause-decisions : goal.returns-in_ok-self-in-Leaf-clause-decisions
returns-in_ok-self-in-Leaf-clause-decisions c = c.in_ok-self-in-Leaf.ensures.decisions c.args.market.now c.requires.decisions
