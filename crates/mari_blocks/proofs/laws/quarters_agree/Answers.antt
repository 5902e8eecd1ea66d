use Rattle.mari_blocks.proofs.Quarters.{has-within, within-has, zone-has-quarter}
use Rattle.mari_blocks.proofs.laws.quarters_agree.Goals as goal

pub returns-clause-within : goal.returns-clause-within
returns-clause-within c first last quarter = (within-has first last quarter, has-within first last quarter)

pub returns-clause-zones : goal.returns-clause-zones
returns-clause-zones c = zone-has-quarter c.args.books.now
