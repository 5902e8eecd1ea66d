use Rattle.std.proofs.Common.{None, arith, pos}
use Rattle.mari_market.specs.declared.market.Order.{Order}
use Rattle.mari_market.specs.declared.market.Side.TheVariants.{Inject}
use Rattle.mari_check.specs.declared.ends.End.TheVariants.{Greatest, Least}
use Rattle.mari_check.proofs.Bounds.{all_tightest_more}
use Rattle.mari_check.proofs.ends.tightest.Goals as goal

pub loop-i-preserved : goal.loop-i-preserved
loop-i-preserved c =
    let none : Order = record { zone = 0; side = Inject; price = record { 0 = pos 0 }; least = 0; greatest = 0; gate = None } in
    let os = c.args.orders.now in
    let qs = c.args.mw.now in
    let i = c.loop-i.i in
    let old = c.loop-i.heights in
    let raised = c.raise.ensures in
    record {
      least = all_tightest_more Least os qs i c.args.zones none old.least.items _ c.loop-i-test.true (omega (arith, c.requires.lengths)) c.loop-i.invariant.least raised.lows raised.least;
      greatest =
          all_tightest_more Greatest os qs i c.args.zones none old.greatest.items _ c.loop-i-test.true (omega (arith, c.requires.lengths)) c.loop-i.invariant.greatest raised.highs raised.greatest;
    }
