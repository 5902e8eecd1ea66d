use Rattle.mari_reach.proofs.LeafLaws.{bound_is_early}
use Rattle.mari_reach.proofs.laws.early.Goals as goal

pub returns : goal.returns
returns c = λ w word ds potentials a ps h r b. bound_is_early c.args.market.now w word ds potentials a ps c.requires h r b
