use Rattle.std.proofs.Common.{FitsSigned, arith, get_or, pos, refl, rules, to_z-of_z, w64}
use Rattle.mari_market.specs.declared.market.Border.{Border}
use Rattle.mari_market.specs.Along.{LeadsTo}
use Rattle.mari_check.specs.Spread.Spreads.{unchanged}
use Rattle.mari_check.proofs.Spreads.{going-more, small-spreads}
use Rattle.mari_check.proofs.spread.round.Goals as goal
use Rattle.mari_check.proofs.spread.round.Goals.{then-over_border, else-over_border}

pub loop-i-init : goal.loop-i-init
loop-i-init c = record { spreads = unchanged; settled = λ e. (refl, tt); less = λ e. absurd (cc e) }

pub over_border-requires-clause-small : goal.over_border-requires-clause-small
over_border-requires-clause-small c = small-spreads (LeadsTo c.args.along c.args.borders.now c.args.flow.now) c.args.values.now c.loop-i.values c.requires.small c.loop-i.invariant.spreads

pub loop-i-preserved : goal.loop-i-preserved
loop-i-preserved c =
    let none : Border = record { from = 0; to = 0; limit = 0; back = 0 } in
    let fits : FitsSigned w64 (get_or c.args.flow.now c.loop-i.i (pos 0)) = search rules in
    let more = going-more c.args.along c.args.borders.now c.args.flow.now none _ c.loop-i.i c.args.values.now c.loop-i.values c.over_border.new.values c.loop-i.raised
    c.if-over_border.raised c.over_border.result
    c.requires.small c.loop-i-test.true (omega (arith, c.requires.lengths)) (to_z-of_z fits)
    (record { spreads = c.loop-i.invariant.spreads; settled = c.loop-i.invariant.settled; less = c.loop-i.invariant.less })
    (record { spreads = c.over_border.ensures.spreads; settled = c.over_border.ensures.settled; less = c.over_border.ensures.raised })
    (λ e. elim c.if-over_border.branch [ then-over_border w ↦ w.raised-is | else-over_border w ↦ absurd (let no = w.if-over_border.false in cc) ])
    (λ e. elim c.if-over_border.branch [ then-over_border w ↦ absurd (let yes = w.if-over_border.true in cc) | else-over_border w ↦ w.raised-is ]) in
    record { spreads = more.spreads; settled = more.settled; less = more.less }
