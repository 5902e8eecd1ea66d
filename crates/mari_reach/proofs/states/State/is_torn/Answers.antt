use Rattle.std.proofs.Common.{sym, ◌∙◌, arith}
use Rattle.mari_reach.specs.Tables.{is_torn}
use Rattle.mari_reach.proofs.Ranges.{both_true, none_in_range, one_in_range}
use Rattle.mari_reach.proofs.states.State.is_torn.Goals as goal

pub returns-then-at-2 : goal.returns-then-at-2
returns-then-at-2 c =
    sym (one_in_range (is_torn c.args.self.now) c.args.gates c.loop-gate.gate c.loop-gate-test.true
    (both_true _ _ (sym c.at.ensures ∙ c.if-at.true) (sym c.at-then-at.ensures ∙ c.if-at-2.true)))

pub returns : goal.returns
returns c = sym (none_in_range (is_torn c.args.self.now) c.args.gates (λ h l. c.loop-gate.invariant h (omega arith)))
