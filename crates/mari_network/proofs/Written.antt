-- An optimum can be written as an activation.
use Rattle.std.proofs.Common.{length, map, take, unsigned_abs, refl}
use Rattle.mari_market.specs.declared.market.Market.{Market}
use Rattle.mari_market.specs.declared.activation.Activation.{Activation}
use Rattle.mari_network.specs.declared.optimum.Optimum.{Optimum}
use Rattle.mari_network.specs.Solving.{FitsOrders, IsWritten}
use Rattle.mari_network.proofs.Transfers.{sizes_put}

pub some_written : (m : Market) (o : Optimum) → FitsOrders m o → (a : Activation) × IsWritten m o a
some_written m o fits =
    let amounts = take (length m.orders) o.amounts.items in
    (record { mw = map unsigned_abs amounts; flow = o.flows.items }, record { puts = sizes_put m.orders amounts fits.puts; flow = refl })
