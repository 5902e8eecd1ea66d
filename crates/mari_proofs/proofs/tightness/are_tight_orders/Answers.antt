use Rattle.std.proofs.Common.{arith, refl}
use Rattle.mari_market.specs.Bounds.{span_in}
use Rattle.mari_market.specs.Dual.{IsTightOrder}
use Rattle.mari_gates.specs.GateTable.{state_in}
use Rattle.mari_market.proofs.Lists.{passes_more, fails_at}
use Rattle.mari_proofs.proofs.tightness.are_tight_orders.Goals as goal

pub loop-i-preserved : goal.loop-i-preserved
loop-i-preserved c =
    passes_more (IsTightOrder (span_in (state_in c.args.states.now)) c.args.potentials.now) c.args.orders.now c.args.mw.now c.loop-i.i _ 0 _ _
    c.loop-i-test.true (omega arith) refl c.is_tight_order.ensures c.if-not-is_tight_order.false c.loop-i.invariant

pub returns-then-not-is_tight_order : goal.returns-then-not-is_tight_order
returns-then-not-is_tight_order c =
    fails_at (IsTightOrder (span_in (state_in c.args.states.now)) c.args.potentials.now) c.args.orders.now c.args.mw.now c.loop-i.i _ 0 _ _
    c.loop-i-test.true refl c.is_tight_order.ensures c.if-not-is_tight_order.true
