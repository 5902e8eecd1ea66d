use Rattle.mari_workers.proofs.Refined.{cut_may_refine, may_cut}
use Rattle.mari_workers.proofs.publishing.cut_and_refined.Goals as goal

pub cut_back-requires-clause-holds : goal.cut_back-requires-clause-holds
cut_back-requires-clause-holds c = may_cut c.args.market.now c.args.budget c.args.found c.requires.found

pub refined_from-requires-clause-found : goal.refined_from-requires-clause-found
refined_from-requires-clause-found c = cut_may_refine c.args.market.now c.args.budget c.args.found c.in-Ok.tree c.requires.market c.requires.found c.in-Ok.ensures.holds c.in-Ok.ensures.smaller
