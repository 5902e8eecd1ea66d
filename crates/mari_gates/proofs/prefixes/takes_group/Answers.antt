use Rattle.std.proofs.Common.{◌≡◌, Some, arith, sym, ◌∙◌}
use Rattle.mari_market.specs.Gates.{group_of}
use Rattle.mari_gates.proofs.Decisions.{group_at, equal_some, unequal_some, none_more, taken_by_none, taken_by_one}
use Rattle.mari_gates.proofs.prefixes.takes_group.Goals as goal
use Rattle.mari_gates.proofs.prefixes.takes_group.Goals.{else-opens-via-then-opens+else-eq, else-opens-via-else-opens}

pub returns-then-eq : goal.returns-then-eq
returns-then-eq c =
    let gates = c.args.gates.now in
    let gate = c.loop-gate.gate in
    let of_it : group_of gates gate ≡ Some c.args.group = group_at gates gate _ (omega arith) ∙ equal_some _ c.args.group (sym c.eq.ensures ∙ c.if-eq.true) in
    sym (taken_by_one c.args.group gates c.args.prefix.now c.args.decided gate c.loop-gate-test.true (sym c.opens.ensures ∙ c.if-opens.true) of_it)

pub loop-gate-preserved : goal.loop-gate-preserved
loop-gate-preserved c =
    let gates = c.args.gates.now in
    let gate = c.loop-gate.gate in
    none_more c.args.group gates c.args.prefix.now gate c.loop-gate.invariant (elim c.else-opens.branch [
      | else-opens-via-then-opens+else-eq w ↦ λ bit of_it. unequal_some _ c.args.group (sym w.eq.ensures ∙ w.if-eq.false) (sym (group_at gates gate _ (omega arith)) ∙ of_it)
      | else-opens-via-else-opens w ↦ λ bit of_it. absurd (cc (c.opens.ensures, w.if-opens.false, bit))
    ])

pub returns : goal.returns
returns c = sym (taken_by_none c.args.group c.args.gates.now c.args.prefix.now c.args.decided (λ g h. c.loop-gate.invariant g (omega arith)))
