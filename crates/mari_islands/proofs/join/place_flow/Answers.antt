use Rattle.std.proofs.Common.{◌<◌, pos, get_or, length, arith, rules}
use Rattle.mari_islands.proofs.Placing.{others_more, place_more}
use Rattle.mari_islands.proofs.join.place_flow.Goals as goal

pub loop-place-preserved : goal.loop-place-preserved
loop-place-preserved c =
    let numbers = c.args.numbers.now in
    let own = c.args.own.now in
    let i = c.loop-place.place in
    let here : i < length own = omega (arith, c.loop-place-test.true, c.requires.lengths) in
    let there : get_or numbers i 0 < length c.loop-place.flow = let below = c.requires.numbers.below i 0 c.loop-place-test.true in omega (arith, below, c.loop-place.auto.flow) in
    record {
      placed = place_more (pos 0) c.loop-place.flow numbers own i _ c.requires.numbers.rising c.loop-place-test.true here there (search rules) c.loop-place.invariant.placed;
      others = others_more (pos 0) c.loop-place.flow numbers own i _ c.requires.numbers.rising c.loop-place-test.true here there (search rules) c.args.flow.now c.loop-place.invariant.others;
    }
