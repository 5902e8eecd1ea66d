use Rattle.std.proofs.Common.{◌||◌, Bool, FitsSigned, ap, rules, sym, to_z-of_z, w64, ◌∙◌}
use Rattle.mari_check.proofs.Spreads.{both-ways-over, over-by}
use Rattle.mari_check.proofs.spread.over_border.Goals as goal

pub returns-then-on : goal.returns-then-on
returns-then-on c =
    let fits : FitsSigned w64 c.args.flow = search rules in
    let first = c.raise_if-on.result in
    let second = c.raise_if-back.result in
    let o = over-by c.args.along c.args.border.now c.args.flow c.args.values.now c.raise_if-back.new.values first second first (c.if-on.true ∙ sym (ap (λ (q : Bool). q || second) c.if-on.true))
    (both-ways-over c.args.along c.args.border.now c.args.flow _
    (to_z-of_z fits) c.leads_on.result c.leads_back.result c.args.values.now c.raise_if-on.new.values c.raise_if-back.new.values first second c.requires.from c.requires.to c.requires.small
    c.leads_on.ensures.0 c.leads_on.ensures.1 c.leads_back.ensures.0 c.leads_back.ensures.1 c.raise_if-on.ensures c.raise_if-back.ensures) in
    record { spreads = o.spreads; settled = o.settled; raised = o.less }

pub returns-else-on : goal.returns-else-on
returns-else-on c =
    let fits : FitsSigned w64 c.args.flow = search rules in
    let first = c.raise_if-on.result in
    let second = c.raise_if-back.result in
    let o = over-by c.args.along c.args.border.now c.args.flow c.args.values.now c.raise_if-back.new.values first second second (sym (ap (λ (q : Bool). q || second) c.if-on.false))
    (both-ways-over c.args.along c.args.border.now c.args.flow _
    (to_z-of_z fits) c.leads_on.result c.leads_back.result c.args.values.now c.raise_if-on.new.values c.raise_if-back.new.values first second c.requires.from c.requires.to c.requires.small
    c.leads_on.ensures.0 c.leads_on.ensures.1 c.leads_back.ensures.0 c.leads_back.ensures.1 c.raise_if-on.ensures c.raise_if-back.ensures) in
    record { spreads = o.spreads; settled = o.settled; raised = o.less }
