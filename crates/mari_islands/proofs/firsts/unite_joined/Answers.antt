use Rattle.std.proofs.Common.{◌<◌, length, arith}
use Rattle.mari_islands.proofs.Uniting.{AreLowered, union_joins, union_sound, union_stays}
use Rattle.mari_islands.proofs.firsts.unite_joined.Goals as goal

pub returns-clause-sound : goal.returns-clause-sound
returns-clause-sound c =
    let lowered : AreLowered c.args.firsts.now c.unite.new.firsts c.args.zone c.args.other = record { long = c.unite.auto.firsts; each = c.unite.ensures } in
    union_sound c.args.market.now c.args.firsts.now c.unite.new.firsts c.args.zone c.args.other c.requires.sound c.requires.zone c.requires.other c.requires.joined lowered

pub returns-clause-united : goal.returns-clause-united
returns-clause-united c =
    let lowered : AreLowered c.args.firsts.now c.unite.new.firsts c.args.zone c.args.other = record { long = c.unite.auto.firsts; each = c.unite.ensures } in
    let zone : c.args.zone < length c.args.firsts.now = omega (arith, c.requires.sound.one_each, c.requires.zone) in
    let other : c.args.other < length c.args.firsts.now = omega (arith, c.requires.sound.one_each, c.requires.other) in
    union_joins c.args.firsts.now c.unite.new.firsts c.args.zone c.args.other zone other lowered

pub returns-clause-stay : goal.returns-clause-stay
returns-clause-stay c =
    let lowered : AreLowered c.args.firsts.now c.unite.new.firsts c.args.zone c.args.other = record { long = c.unite.auto.firsts; each = c.unite.ensures } in
    union_stays c.args.firsts.now c.unite.new.firsts c.args.zone c.args.other lowered
