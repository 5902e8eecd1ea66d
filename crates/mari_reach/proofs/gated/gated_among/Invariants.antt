use Rattle.std.proofs.Common.{◌≡◌, take}
use Rattle.std.specs.List.{filter}
use Rattle.mari_reach.specs.Tables.{has_gate}
use Rattle.mari_reach.proofs.gated.gated_among.Given as goal

abbrev pub invariant-loop-order : goal.invariant-loop-order
invariant-loop-order l = l.gated.items ≡ filter has_gate (take l.order-index l.orders)
