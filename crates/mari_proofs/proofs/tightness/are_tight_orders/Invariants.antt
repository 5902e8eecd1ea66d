use Rattle.std.proofs.Common.{take}
use Rattle.std.specs.List.{AllZip}
use Rattle.mari_market.specs.Bounds.{span_in}
use Rattle.mari_market.specs.Dual.{IsTightOrder}
use Rattle.mari_gates.specs.GateTable.{state_in}
use Rattle.mari_proofs.proofs.tightness.are_tight_orders.Given as goal

abbrev pub invariant-loop-i : goal.invariant-loop-i
invariant-loop-i l = AllZip (IsTightOrder (span_in (state_in l.states)) l.potentials) (take l.i l.orders) (take l.i l.mw)
