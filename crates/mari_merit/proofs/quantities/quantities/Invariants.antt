use Rattle.std.proofs.Common.{◌≡◌, ◌++◌, drop}
use Rattle.mari_merit.specs.Merit.{quantities_at}
use Rattle.mari_merit.proofs.quantities.quantities.Given as goal

abbrev pub invariant-loop-order : goal.invariant-loop-order
invariant-loop-order l = record {
  rest : l.mw.items ++ quantities_at l.fn.price.0 l.marginal.left (drop l.order-index l.orders) ≡ quantities_at l.fn.price.0 l.fn.left l.orders;
  price : l.marginal.price ≡ l.fn.price.0;
}
