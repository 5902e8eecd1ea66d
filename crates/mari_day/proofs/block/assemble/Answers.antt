use Rattle.std.proofs.Common.{refl}
use Rattle.mari_day.proofs.block.assemble.Goals as goal

-- the lines don't depend on the tree
pub returns-clause-block : goal.returns-clause-block
returns-clause-block c =
    let is = c.in-Ok.ensures in
    record {
      heading = is.heading;
      welfare = is.welfare;
      tree = refl;
      names = record { zones = is.names.zones; from = is.names.from; to = is.names.to; bids = is.names.bids };
      zones = record { prices = is.zones.prices; least = is.zones.least; greatest = is.zones.greatest; areas = is.zones.areas };
      flow = is.flow;
      orders = record { mw = is.orders.mw; demands = is.orders.demands };
      ledger = record { rents = is.ledger.rents; operators = is.ledger.operators; providers = is.ledger.providers };
    }
