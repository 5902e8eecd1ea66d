use Rattle.std.proofs.Common.{◌<◌, [], arith, length, map, sym}
use Rattle.std.proofs.lemmas.List.{length-map, get_or-map}
use Rattle.mari_market.proofs.Lists.{passes_all}
use Rattle.mari_settle.specs.Lines.{nothing}
use Rattle.mari_lines.specs.declared.line.AmountLine.{AmountLine}
use Rattle.mari_check.specs.Lines.{IsSameAmountLine}
use Rattle.mari_progress.specs.Money.{amount_line}
use Rattle.mari_check.proofs.Zips.{pass, same-by}
use Rattle.mari_check.proofs.ledger.are_amount_lines.Goals as goal

abbrev none : AmountLine
none = record { name = []; amount = nothing }

pub loop-order-preserved : goal.loop-order-preserved
loop-order-preserved c =
    let line = amount_line c.args.names.now c.args.amounts.now in
    let all = map line c.args.places.now in
    let i = c.loop-order.order in
    let inside : i < length c.args.places.now = omega (arith, c.loop-order-test.true, c.if-lines-places.false) in
    pass IsSameAmountLine c.args.lines.now all i c.index-lines-order.result none _ c.is_amount_line.result c.loop-order-test.true
    (omega (arith, length-map c.args.places.now line, inside)) c.index-lines-order.is
    (sym (get_or-map line c.args.places.now i 0 none inside)) c.is_amount_line.ensures c.if-not-is_amount_line.false c.loop-order.invariant

pub returns : goal.returns
returns c =
    let line = amount_line c.args.names.now c.args.amounts.now in
    let all = map line c.args.places.now in
    same-by IsSameAmountLine (λ x y e. e) (λ x y e. e) c.args.lines.now all _
    (passes_all IsSameAmountLine c.args.lines.now all c.loop-order.order c.loop-order-test.false
    (omega (arith, length-map c.args.places.now line, c.loop-order-test.false, c.if-lines-places.false)) c.loop-order.invariant)
