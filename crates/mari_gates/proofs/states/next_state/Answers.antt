use Rattle.std.proofs.Common.{true, false, arith, sym, ◌∙◌}
use Rattle.mari_gates.proofs.GateTable.{state_past, state_decided}
use Rattle.mari_gates.proofs.states.next_state.Goals as goal

pub returns-then-gate-prefix : goal.returns-then-gate-prefix
returns-then-gate-prefix c =
    c.implied_state.ensures ∙ sym
    (state_past c.args.gates.now c.args.prefix.now c.args.states.now c.args.gate c.requires.earlier c.requires.before c.requires.gate c.if-gate-prefix.true)

pub returns-then-opens : goal.returns-then-opens
returns-then-opens c = sym (state_decided c.args.gates.now c.args.prefix.now c.args.gate true c.requires.earlier c.requires.gate (omega arith) (sym c.opens.ensures ∙ c.if-opens.true))

pub returns-else-opens : goal.returns-else-opens
returns-else-opens c = sym (state_decided c.args.gates.now c.args.prefix.now c.args.gate false c.requires.earlier c.requires.gate (omega arith) (sym c.opens.ensures ∙ c.if-opens.false))
