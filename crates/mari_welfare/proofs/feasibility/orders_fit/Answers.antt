use Rattle.std.proofs.Common.{arith, refl}
use Rattle.mari_market.specs.Bounds.{IsWithin, bounds_by}
use Rattle.mari_market.specs.Prefix.{opens_in}
use Rattle.mari_market.proofs.Lists.{passes_more, fails_at}
use Rattle.mari_welfare.proofs.feasibility.orders_fit.Goals as goal

pub loop-i-preserved : goal.loop-i-preserved
loop-i-preserved c =
    passes_more (λ o q. IsWithin (bounds_by (opens_in c.args.opened.now) o) q) c.args.orders.now c.args.mw.now c.loop-i.i _ 0 _ _ c.loop-i-test.true
    (omega arith) refl c.is_within.ensures c.if-not-is_within.false c.loop-i.invariant

pub returns-then-not-is_within : goal.returns-then-not-is_within
returns-then-not-is_within c =
    fails_at (λ o q. IsWithin (bounds_by (opens_in c.args.opened.now) o) q) c.args.orders.now c.args.mw.now c.loop-i.i _ 0 _ _ c.loop-i-test.true refl
    c.is_within.ensures c.if-not-is_within.true
