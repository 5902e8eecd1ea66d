use Rattle.std.proofs.Common.{arith, refl, pos}
use Rattle.mari_units.specs.declared.numbers.Quarters.{Quarters}
use Rattle.mari_check.specs.Lines.{StatesRent}
use Rattle.mari_check.proofs.Zips.{fail, pass, uneven}
use Rattle.mari_check.proofs.ledger.are_rents.Goals as goal

abbrev none : Quarters
none = record { 0 = pos 0 }

pub returns-then-lines-rents : goal.returns-then-lines-rents
returns-then-lines-rents c = uneven StatesRent c.args.lines.now c.args.rents.now (λ e. omega (arith, e, c.if-lines-rents.true))

pub returns-then-not-is_rent : goal.returns-then-not-is_rent
returns-then-not-is_rent c =
    fail StatesRent c.args.lines.now c.args.rents.now c.loop-border.border c.index-lines-border.result none _ c.is_rent.result c.loop-border-test.true
    c.index-lines-border.is refl c.is_rent.ensures c.if-not-is_rent.true

pub loop-border-preserved : goal.loop-border-preserved
loop-border-preserved c =
    pass StatesRent c.args.lines.now c.args.rents.now c.loop-border.border c.index-lines-border.result none _ c.is_rent.result c.loop-border-test.true
    (omega (arith, c.if-lines-rents.false)) c.index-lines-border.is refl c.is_rent.ensures c.if-not-is_rent.false c.loop-border.invariant
