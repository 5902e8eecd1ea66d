use Rattle.std.proofs.Common.{◌∙◌, arith}
use Rattle.std.proofs.lemmas.Int.{ints}
use Rattle.mari_network.proofs.Resumed.{along_again}
use Rattle.mari_network.proofs.Worths.{room_falls}
use Rattle.mari_paths.proofs.drains.drain.Goals as goal

pub loop-amounts-preserved : goal.loop-amounts-preserved
loop-amounts-preserved c =
    let slots = c.args.network.now.slots.now in
    let bs = c.args.network.now.borders.now in
    let inv = c.loop-amounts.invariant in
    let new = c.push_along-in-loop-amounts.ensures in
    let same = c.go_on.ensures.hops ∙ inv.same in
    record {
      runs = new.runs;
      worth = new.worth;
      margins = new.margins;
      hops = rw c.go_on.ensures.hops inv.hops;
      same = same;
      along = along_again slots bs c.args.chain.now.hops.items c.args.amounts.now c.args.flows.now c.loop-amounts.amounts c.loop-amounts.flows c.push_along-in-loop-amounts.new.amounts
          c.push_along-in-loop-amounts.new.flows
          inv.along (rw same at new.along);
      rises = omega (arith, ints, inv.rises, new.rises);
    }

pub loop-amounts-smaller : goal.loop-amounts-smaller
loop-amounts-smaller c =
    room_falls c.args.network.now.slots.now c.loop-amounts.amounts c.push_along-in-loop-amounts.new.amounts c.push_along-in-loop-amounts.ensures.rises
    c.push_along-in-loop-amounts.ensures.runs.amounts
