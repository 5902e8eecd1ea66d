use Rattle.std.proofs.Common.{arith, refl}
use Rattle.mari_market.specs.Consistent.{IsConsistentOrder}
use Rattle.mari_market.specs.Prefix.{opens_in}
use Rattle.mari_market.proofs.Lists.{passes_more, fails_at}
use Rattle.mari_welfare.proofs.consistency.orders_agree.Goals as goal

pub loop-i-preserved : goal.loop-i-preserved
loop-i-preserved c =
    passes_more (IsConsistentOrder (opens_in c.args.opened.now) c.args.prices.now) c.args.orders.now c.args.mw.now c.loop-i.i _ 0 _ _
    c.loop-i-test.true (omega arith) refl c.is_consistent_order.ensures c.if-not-is_consistent_order.false c.loop-i.invariant

pub returns-then-not-is_consistent_order : goal.returns-then-not-is_consistent_order
returns-then-not-is_consistent_order c =
    fails_at (IsConsistentOrder (opens_in c.args.opened.now) c.args.prices.now) c.args.orders.now c.args.mw.now c.loop-i.i _ 0 _ _ c.loop-i-test.true
    refl c.is_consistent_order.ensures c.if-not-is_consistent_order.true
