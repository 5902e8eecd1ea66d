use Rattle.std.proofs.Common.{arith, refl}
use Rattle.mari_zones.specs.declared.borders.BorderEnds.{BorderEnds}
use Rattle.mari_check.specs.Lines.{NamesEnds}
use Rattle.mari_check.proofs.Zips.{fail, pass, uneven}
use Rattle.mari_check.proofs.names.borders_named.Goals as goal

abbrev none : BorderEnds
none = record { from = 0; to = 0; limit = 0; back = 0 }

pub returns-then-lines-borders : goal.returns-then-lines-borders
returns-then-lines-borders c = uneven (NamesEnds c.args.names.now) c.args.lines.now c.args.borders.now (λ e. omega (arith, e, c.if-lines-borders.true))

pub returns-then-not-are_ends_named : goal.returns-then-not-are_ends_named
returns-then-not-are_ends_named c =
    fail (NamesEnds c.args.names.now) c.args.lines.now c.args.borders.now c.loop-border.border c.index-lines-border.result none _
    c.are_ends_named.result c.loop-border-test.true c.index-lines-border.is refl c.are_ends_named.ensures c.if-not-are_ends_named.true

pub loop-border-preserved : goal.loop-border-preserved
loop-border-preserved c =
    pass (NamesEnds c.args.names.now) c.args.lines.now c.args.borders.now c.loop-border.border c.index-lines-border.result none _
    c.are_ends_named.result c.loop-border-test.true (omega (arith, c.if-lines-borders.false)) c.index-lines-border.is refl c.are_ends_named.ensures
    c.if-not-are_ends_named.false c.loop-border.invariant
