use Rattle.std.proofs.Common.{◌<◌, [], arith, length}
use Rattle.mari_market.proofs.Lists.{passes_all}
use Rattle.mari_settle.specs.Lines.{no_line}
use Rattle.mari_lines.specs.declared.line.MoneyLine.{MoneyLine}
use Rattle.mari_check.specs.Lines.{IsSameMoneyLine}
use Rattle.mari_progress.specs.Money.{money_line, money_lines_of}
use Rattle.mari_progress.proofs.Lists.{along-length}
use Rattle.mari_check.proofs.Zips.{along-at, pass, same-by, uneven}
use Rattle.mari_check.proofs.ledger.are_money_lines.Goals as goal

abbrev none : MoneyLine
none = money_line [] no_line

pub returns-then-lines-len : goal.returns-then-lines-len
returns-then-lines-len c =
    let all = money_lines_of c.args.names.now c.args.own.now in
    let many = along-length money_line c.args.names.now c.args.own.now c.requires.one_each in
    same-by IsSameMoneyLine (λ x y e. e) (λ x y e. e) c.args.lines.now all _ (uneven IsSameMoneyLine c.args.lines.now all (λ e. omega (arith, e, many, c.if-lines-len.true, c.len.ensures.len)))

pub loop-operator-preserved : goal.loop-operator-preserved
loop-operator-preserved c =
    let all = money_lines_of c.args.names.now c.args.own.now in
    let i = c.loop-operator.operator in
    let many = along-length money_line c.args.names.now c.args.own.now c.requires.one_each in
    let inside : i < length c.args.names.now = omega (arith, c.loop-operator-test.true, c.if-lines-len.false, c.len.ensures.len) in
    pass IsSameMoneyLine c.args.lines.now all i c.index-lines-operator.result none _ c.is_money_line.result c.loop-operator-test.true (omega (arith, many, inside)) c.index-lines-operator.is
    (along-at money_line c.args.names.now c.args.own.now i [] no_line none inside (omega (arith, inside, c.requires.one_each)))
    c.is_money_line.ensures c.if-not-is_money_line.false c.loop-operator.invariant

pub returns : goal.returns
returns c =
    let all = money_lines_of c.args.names.now c.args.own.now in
    let many = along-length money_line c.args.names.now c.args.own.now c.requires.one_each in
    same-by IsSameMoneyLine (λ x y e. e) (λ x y e. e) c.args.lines.now all _
    (passes_all IsSameMoneyLine c.args.lines.now all c.loop-operator.operator c.loop-operator-test.false
    (omega (arith, many, c.loop-operator-test.false, c.if-lines-len.false, c.len.ensures.len)) c.loop-operator.invariant)
