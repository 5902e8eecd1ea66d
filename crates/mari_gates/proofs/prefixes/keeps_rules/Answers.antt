use Rattle.std.proofs.Common.{arith, sym, ◌∙◌}
use Rattle.mari_gates.proofs.Decisions.{feasible_more, not_feasible}
use Rattle.mari_gates.proofs.prefixes.keeps_rules.Goals as goal
use Rattle.mari_gates.proofs.prefixes.keeps_rules.Goals.{else-opens-via-then-opens+else-not-may_open_next, else-opens-via-else-opens}

pub returns-then-not-may_open_next : goal.returns-then-not-may_open_next
returns-then-not-may_open_next c = (
  λ no. absurd (cc),
  λ f. absurd (not_feasible c.args.gates.now c.args.prefix.now c.args.prefix.now.length c.loop-gate.gate c.requires.earlier c.loop-gate-test.true (sym c.opens.ensures ∙ c.if-opens.true)
      (sym c.may_open_next.ensures ∙ c.if-not-may_open_next.true) f),
)

pub loop-gate-preserved : goal.loop-gate-preserved
loop-gate-preserved c = feasible_more c.args.gates.now c.args.prefix.now c.loop-gate.gate (omega arith) c.loop-gate.invariant (elim c.else-opens.branch [
  | else-opens-via-then-opens+else-not-may_open_next w ↦ λ b. sym w.may_open_next.ensures ∙ w.if-not-may_open_next.false
  | else-opens-via-else-opens w ↦ λ b. absurd (cc (c.opens.ensures, w.if-opens.false, b))
])
