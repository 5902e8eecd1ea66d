use Rattle.mari_market.specs.Sums.{int_at}
use Rattle.mari_network.specs.Orders.{is_inside}
use Rattle.mari_network.proofs.Zones.{AreZones}
use Rattle.mari_network.proofs.finish.cut_zones.Given as goal

abbrev pub invariant-loop-z : goal.invariant-loop-z
invariant-loop-z l = AreZones (λ k. is_inside l.side (int_at l.prices k)) l.z l.zones.items
