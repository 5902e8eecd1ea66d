use Rattle.std.proofs.Common.{◌≡◌, ◌∙◌, ◌<◌, [], false, ap, arith, get_or, length, map, sym}
use Rattle.std.specs.List.{range_with_len}
use Rattle.std.proofs.lemmas.List.FromFn.{get_or-range_with_len, length-map-range_with_len, length-range_with_len}
use Rattle.std.proofs.lemmas.List.{get_or-map}
use Rattle.mari_market.proofs.Lists.{passes_all}
use Rattle.mari_settle.specs.Lines.{nothing}
use Rattle.mari_lines.specs.declared.line.AmountLine.{AmountLine}
use Rattle.mari_check.specs.Lines.{IsSameAmountLine}
use Rattle.mari_progress.specs.Money.{amount_line}
use Rattle.mari_check.proofs.Zips.{fail, pass, same-by, uneven}
use Rattle.mari_check.proofs.ledger.are_total_lines.Goals as goal

abbrev none : AmountLine
none = record { name = []; amount = nothing }

pub returns-then-lines-len : goal.returns-then-lines-len
returns-then-lines-len c =
    let line = amount_line c.args.names.now c.args.amounts.now in
    let all = map line (range_with_len 0 (length c.args.names.now)) in
    let many = length-map-range_with_len line 0 (length c.args.names.now) in
    same-by IsSameAmountLine (λ x y e. e) (λ x y e. e) c.args.lines.now all _ (uneven IsSameAmountLine c.args.lines.now all (λ e. omega (arith, e, many, c.if-lines-len.true, c.len.ensures.len)))

pub loop-provider-preserved : goal.loop-provider-preserved
loop-provider-preserved c =
    let n = length c.args.names.now in
    let line = amount_line c.args.names.now c.args.amounts.now in
    let all = map line (range_with_len 0 n) in
    let i = c.loop-provider.provider in
    let inside : i < n = omega (arith, c.loop-provider-test.true, c.if-lines-len.false, c.len.ensures.len) in
    let own : get_or (range_with_len 0 n) i 0 ≡ i = omega (arith, get_or-range_with_len 0 n i 0 inside) in
    pass IsSameAmountLine c.args.lines.now all i c.index-lines-provider.result none _ c.is_amount_line.result c.loop-provider-test.true
    (omega (arith, length-map-range_with_len line 0 n, inside)) c.index-lines-provider.is
    (ap line (sym own) ∙ sym (get_or-map line (range_with_len 0 n) i 0 none (omega (arith, length-range_with_len 0 n, inside))))
    c.is_amount_line.ensures c.if-not-is_amount_line.false c.loop-provider.invariant

pub returns : goal.returns
returns c =
    let line = amount_line c.args.names.now c.args.amounts.now in
    let all = map line (range_with_len 0 (length c.args.names.now)) in
    same-by IsSameAmountLine (λ x y e. e) (λ x y e. e) c.args.lines.now all _
    (passes_all IsSameAmountLine c.args.lines.now all c.loop-provider.provider c.loop-provider-test.false
    (omega (arith, length-map-range_with_len line 0 (length c.args.names.now), c.loop-provider-test.false, c.if-lines-len.false, c.len.ensures.len)) c.loop-provider.invariant)

pub returns-then-not-is_amount_line : goal.returns-then-not-is_amount_line
returns-then-not-is_amount_line c =
    let n = length c.args.names.now in
    let line = amount_line c.args.names.now c.args.amounts.now in
    let all = map line (range_with_len 0 n) in
    let i = c.loop-provider.provider in
    let inside : i < n = omega (arith, c.loop-provider-test.true, c.if-lines-len.false, c.len.ensures.len) in
    let own : get_or (range_with_len 0 n) i 0 ≡ i = omega (arith, get_or-range_with_len 0 n i 0 inside) in
    same-by IsSameAmountLine (λ x y e. e) (λ x y e. e) c.args.lines.now all false
    (fail IsSameAmountLine c.args.lines.now all i c.index-lines-provider.result none _ c.is_amount_line.result c.loop-provider-test.true c.index-lines-provider.is
    (ap line (sym own) ∙ sym (get_or-map line (range_with_len 0 n) i 0 none (omega (arith, length-range_with_len 0 n, inside)))) c.is_amount_line.ensures c.if-not-is_amount_line.true)
