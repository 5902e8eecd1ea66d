use Rattle.mari_reach.proofs.GateOrders.{gated_if_any, items_if_any}
use Rattle.mari_reach.proofs.gated.gated_orders.Goals as goal

pub returns-clause-speak : goal.returns-clause-speak
returns-clause-speak c = gated_if_any c.args.market.now c.as_slice.result.now c.gated_among.result c.requires c.as_slice.ensures c.gated_among.ensures

pub returns-clause-items : goal.returns-clause-items
returns-clause-items c = items_if_any c.args.market.now c.as_slice.result.now c.gated_among.result c.as_slice.ensures c.gated_among.ensures
