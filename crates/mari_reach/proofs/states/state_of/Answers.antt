use Rattle.mari_reach.proofs.GateOrders.{all_speak}
use Rattle.mari_reach.proofs.states.state_of.Goals as goal

pub set-requires-clause-orders : goal.set-requires-clause-orders
set-requires-clause-orders c = all_speak c.args.market.now c.as_slice.result.now c.requires.market c.as_slice.ensures
