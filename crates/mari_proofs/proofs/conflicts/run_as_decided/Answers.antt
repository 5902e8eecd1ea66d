use Rattle.std.proofs.Common.{arith, refl}
use Rattle.mari_market.specs.declared.market.Order.{Order}
use Rattle.mari_market.proofs.Lists.{passes_more, fails_at}
use Rattle.mari_proofs.specs.Conflicts.{opens_gate, RunsAsDecided}
use Rattle.mari_proofs.proofs.conflicts.run_as_decided.Goals as goal

pub loop-i-preserved : goal.loop-i-preserved
loop-i-preserved c =
    passes_more (λ (o : Order) q. RunsAsDecided (opens_gate c.args.prefix.now) o.gate q) c.args.orders.now c.args.mw.now c.loop-i.i _ 0 _ _
    c.loop-i-test.true (omega arith) refl c.runs_as_decided.ensures c.if-not-runs_as_decided.false c.loop-i.invariant

pub returns-then-not-runs_as_decided : goal.returns-then-not-runs_as_decided
returns-then-not-runs_as_decided c =
    fails_at (λ (o : Order) q. RunsAsDecided (opens_gate c.args.prefix.now) o.gate q) c.args.orders.now c.args.mw.now c.loop-i.i _ 0 _ _
    c.loop-i-test.true refl c.runs_as_decided.ensures c.if-not-runs_as_decided.true
