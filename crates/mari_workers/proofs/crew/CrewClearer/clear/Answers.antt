use Rattle.mari_workers.proofs.crew.CrewClearer.clear.Goals as goal

pub returns-clause-law : goal.returns-clause-law
returns-clause-law g c = (c.requires.ready _ _ c.args.budget c.requires.market c.requires.budget).1 c.run.result c.run.ensures
