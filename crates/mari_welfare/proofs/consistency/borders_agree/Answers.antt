use Rattle.std.proofs.Common.{arith, pos, get_or, to_z-of_z, FitsSigned, w64, rules}
use Rattle.mari_market.specs.declared.market.Border.{Border}
use Rattle.mari_market.specs.Consistent.{IsConsistentBorder}
use Rattle.mari_market.proofs.Lists.{passes_more, fails_at}
use Rattle.mari_welfare.proofs.consistency.borders_agree.Goals as goal

pub loop-i-preserved : goal.loop-i-preserved
loop-i-preserved c =
    let none : Border = record { from = 0; to = 0; limit = 0; back = 0 } in
    let fits : FitsSigned w64 (get_or c.args.flow.now c.loop-i.i (pos 0)) = search rules in
    passes_more (IsConsistentBorder c.args.prices.now) c.args.borders.now c.args.flow.now c.loop-i.i none (pos 0) _ _ c.loop-i-test.true (omega arith)
    (to_z-of_z fits) c.is_consistent_border.ensures c.if-not-is_consistent_border.false c.loop-i.invariant

pub returns-then-not-is_consistent_border : goal.returns-then-not-is_consistent_border
returns-then-not-is_consistent_border c =
    let none : Border = record { from = 0; to = 0; limit = 0; back = 0 } in
    let fits : FitsSigned w64 (get_or c.args.flow.now c.loop-i.i (pos 0)) = search rules in
    fails_at (IsConsistentBorder c.args.prices.now) c.args.borders.now c.args.flow.now c.loop-i.i none (pos 0) _ _ c.loop-i-test.true (to_z-of_z fits)
    c.is_consistent_border.ensures c.if-not-is_consistent_border.true
