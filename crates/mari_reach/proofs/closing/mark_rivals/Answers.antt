use Rattle.std.proofs.Common.{◌&&◌, ◌||◌, ◌∙◌, Bool, ap, sym}
use Rattle.std.specs.List.{list_any, range_with_len}
use Rattle.mari_market.specs.Prefix.{opens_in}
use Rattle.mari_reach.specs.State.{are_rivals}
use Rattle.mari_reach.proofs.Ranges.{any_more, or_assoc}
use Rattle.mari_reach.proofs.closing.mark_rivals.Goals as goal

pub loop-gate-preserved : goal.loop-gate-preserved
loop-gate-preserved c = λ g l.
    let gates = c.args.gates.now in
    let at = c.loop-gate.gate in
    let rival = are_rivals gates g at && opens_in c.args.opened.now at in
    c.mark_rivals_of.ensures g l ∙ ap (λ (b : Bool). b || rival) (c.loop-gate.invariant g l)
    ∙ or_assoc (opens_in c.args.marks.now g) (list_any (λ h. are_rivals gates g h && opens_in c.args.opened.now h) (range_with_len 0 at)) rival
    ∙ ap (λ (b : Bool). opens_in c.args.marks.now g || b) (sym (any_more (λ h. are_rivals gates g h && opens_in c.args.opened.now h) at))
