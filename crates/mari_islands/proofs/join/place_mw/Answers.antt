use Rattle.std.proofs.Common.{◌<◌, get_or, length, refl, arith}
use Rattle.mari_islands.proofs.Placing.{others_more, place_more}
use Rattle.mari_islands.proofs.join.place_mw.Goals as goal

pub loop-place-preserved : goal.loop-place-preserved
loop-place-preserved c =
    let numbers = c.args.numbers.now in
    let own = c.args.own.now in
    let i = c.loop-place.place in
    let here : i < length own = omega (arith, c.loop-place-test.true, c.requires.lengths) in
    let there : get_or numbers i 0 < length c.loop-place.mw = let below = c.requires.numbers.below i 0 c.loop-place-test.true in omega (arith, below, c.loop-place.auto.mw) in
    record {
      placed = place_more 0 c.loop-place.mw numbers own i (get_or own i 0) c.requires.numbers.rising c.loop-place-test.true here there refl c.loop-place.invariant.placed;
      others = others_more 0 c.loop-place.mw numbers own i (get_or own i 0) c.requires.numbers.rising c.loop-place-test.true here there refl c.args.mw.now c.loop-place.invariant.others;
    }
