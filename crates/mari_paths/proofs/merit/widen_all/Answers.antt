use Rattle.std.proofs.Common.{◌*◌, ◌+◌, ◌<◌, arith, length}
use Rattle.mari_network.specs.Network.{no_border, border_at}
use Rattle.mari_paths.specs.Starts.{AreSmallLimits}
use Rattle.mari_paths.proofs.Reaches.{more_in_zone, reach_over_more, reaches_more, AreMore}
use Rattle.mari_paths.proofs.merit.widen_all.Goals as goal

pub loop-border-preserved : goal.loop-border-preserved
loop-border-preserved c =
    let i = c.loop-border.border-index in
    let bs = c.args.borders.now in
    let small : AreSmallLimits (border_at c.args.borders.now c.loop-border.border-index) = c.requires.limits i no_border c.loop-border-test.true in
    let from : (border_at c.args.borders.now c.loop-border.border-index).from < length c.loop-border.reaches =
    omega (arith, (c.requires.ends i no_border c.loop-border-test.true).0, c.loop-border.invariant.long) in
    let to : (border_at c.args.borders.now c.loop-border.border-index).to < length c.widen.new.reaches =
    omega (arith, (c.requires.ends i no_border c.loop-border-test.true).1, c.loop-border.invariant.long, c.widen.auto.reaches) in
    let first : AreMore c.loop-border.reaches c.widen.new.reaches (border_at c.args.borders.now c.loop-border.border-index).from (border_at c.args.borders.now c.loop-border.border-index).limit
    (border_at c.args.borders.now c.loop-border.border-index).back =
    more_in_zone c.loop-border.reaches c.widen.new.reaches _ _ _ from c.widen.ensures in
    let second : AreMore c.widen.new.reaches c.widen-in-loop-border.new.reaches (border_at c.args.borders.now c.loop-border.border-index).to
    (border_at c.args.borders.now c.loop-border.border-index).back (border_at c.args.borders.now c.loop-border.border-index).limit =
    more_in_zone c.widen.new.reaches c.widen-in-loop-border.new.reaches _ _ _ to c.widen-in-loop-border.ensures in
    record {
      long = omega (arith, c.widen-in-loop-border.auto.reaches, c.widen.auto.reaches, c.loop-border.invariant.long);
      reaches =
          reaches_more (400000 * i + 200000) (400000 * (i + 1)) c.widen.new.reaches c.widen-in-loop-border.new.reaches (border_at c.args.borders.now c.loop-border.border-index).to
          (border_at c.args.borders.now c.loop-border.border-index).back
          (border_at c.args.borders.now c.loop-border.border-index).limit to (omega (arith, small.1)) (omega (arith, small.0)) (omega arith) c.widen-in-loop-border.ensures
          (reaches_more (400000 * i) (400000 * i + 200000) c.loop-border.reaches c.widen.new.reaches (border_at c.args.borders.now c.loop-border.border-index).from
          (border_at c.args.borders.now c.loop-border.border-index).limit
          (border_at c.args.borders.now c.loop-border.border-index).back from (omega (arith, small.0)) (omega (arith, small.1)) (omega arith) c.widen.ensures c.loop-border.invariant.reaches);
      each = λ z l. reach_over_more bs i c.loop-border.reaches c.widen.new.reaches c.widen-in-loop-border.new.reaches z c.loop-border-test.true first second (c.loop-border.invariant.each z l);
    }
