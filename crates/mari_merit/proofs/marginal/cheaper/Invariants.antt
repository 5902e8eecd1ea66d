use Rattle.std.proofs.Common.{◌≡◌, ◌≤◌, ◌*◌, take, map}
use Rattle.mari_merit.specs.Merit.{rung_of, room_below}
use Rattle.mari_merit.proofs.marginal.cheaper.Given as goal

abbrev pub invariant-loop-order : goal.invariant-loop-order
invariant-loop-order l = record {
  total : l.total ≡ room_below l.price.0 (map rung_of (take l.order-index l.orders));
  bound : l.total ≤ 99999 * l.order-index;
}
