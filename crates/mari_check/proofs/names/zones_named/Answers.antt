use Rattle.std.proofs.Common.{arith, refl, []}
use Rattle.mari_check.specs.Lines.{NamesZone}
use Rattle.mari_check.proofs.Zips.{fail, pass, uneven}
use Rattle.mari_check.proofs.names.zones_named.Goals as goal

pub returns-then-lines-len : goal.returns-then-lines-len
returns-then-lines-len c = uneven NamesZone c.args.lines.now c.args.names.now (λ e. omega (arith, e, c.if-lines-len.true, c.len.ensures.len))

pub returns-then-not-is_named : goal.returns-then-not-is_named
returns-then-not-is_named c =
    fail NamesZone c.args.lines.now c.args.names.now c.loop-zone.zone c.index-lines-zone.result [] _ c.is_named.result c.loop-zone-test.true
    c.index-lines-zone.is refl c.is_named.ensures c.if-not-is_named.true

pub loop-zone-preserved : goal.loop-zone-preserved
loop-zone-preserved c =
    pass NamesZone c.args.lines.now c.args.names.now c.loop-zone.zone c.index-lines-zone.result [] _ c.is_named.result c.loop-zone-test.true
    (omega (arith, c.if-lines-len.false, c.len.ensures.len)) c.index-lines-zone.is refl c.is_named.ensures c.if-not-is_named.false
    c.loop-zone.invariant
