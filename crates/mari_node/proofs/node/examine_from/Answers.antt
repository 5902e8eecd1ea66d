use Rattle.std.proofs.Common.{◌≡◌, ◌∙◌, sym, subst}
use Rattle.mari_market.specs.Prefix.{word_of}
use Rattle.mari_node.specs.Nodes.{left_by, IsLeft}
use Rattle.mari_node.proofs.Findings.{left_there, left_as_it_was}
use Rattle.mari_node.proofs.node.examine_from.Goals as goal
use Rattle.mari_node.proofs.node.examine_from.Goals.{then-is_some+in-Some-1, then-is_some+in-None-1, else-is_some+in-Some-1, else-is_some+in-None-1}

pub returns-clause-left : goal.returns-clause-left
returns-clause-left c =
    let optimum = c.in_ok-optimum.optimum in
    let old = c.args.start.now in
    let is : left_by optimum old ≡ c.if-is_some.start = elim c.if-is_some.branch [
      | then-is_some+in-Some-1 w ↦ left_there optimum old (sym c.is_some.ensures ∙ w.if-is_some.true) ∙ sym w.start-is
      | then-is_some+in-None-1 w ↦ left_there optimum old (sym c.is_some.ensures ∙ w.if-is_some.true) ∙ sym w.start-is
      | else-is_some+in-Some-1 w ↦ left_as_it_was optimum old (sym c.is_some.ensures ∙ w.if-is_some.false) ∙ sym w.start-is
      | else-is_some+in-None-1 w ↦ left_as_it_was optimum old (sym c.is_some.ensures ∙ w.if-is_some.false) ∙ sym w.start-is
    ] in
    subst (IsLeft c.args.market.now (word_of c.args.prefix.now) c.in_ok-finding.finding old) is (c.in_ok-finding.ensures.left optimum old c.in_ok-optimum.ensures)
