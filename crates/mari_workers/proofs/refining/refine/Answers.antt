use Rattle.mari_workers.proofs.Refined.{closes_at_closed}
use Rattle.mari_workers.proofs.refining.refine.Goals as goal

pub returns-in-Ok-clause-closed : goal.returns-in-Ok-clause-closed
returns-in-Ok-clause-closed c = closes_at_closed c.args.market.now c.args.budget c.args.found c.in-Ok.cleared c.requires.found c.in-Ok.ensures
