use Rattle.mari_node.proofs.Gated.{quantity_small}
use Rattle.mari_node.proofs.bounds.sets_plainly.Goals as goal

pub quantity-requires-clause-small : goal.quantity-requires-clause-small
quantity-requires-clause-small c = quantity_small c.args.market.now c.args.optimum.now c.args.place c.requires.fits c.requires.place
