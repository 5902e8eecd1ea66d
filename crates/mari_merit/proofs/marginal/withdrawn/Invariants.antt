use Rattle.std.proofs.Common.{◌≡◌, ◌≤◌, ◌*◌, take}
use Rattle.mari_merit.specs.Merit.{withdrawn_in}
use Rattle.mari_merit.proofs.marginal.withdrawn.Given as goal

abbrev pub invariant-loop-order : goal.invariant-loop-order
invariant-loop-order l = record {
  total : l.total ≡ withdrawn_in (take l.order-index l.orders);
  bound : l.total ≤ 99999 * l.order-index;
}
