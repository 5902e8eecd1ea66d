use Rattle.std.proofs.Common.{◌≡◌, ◌+◌, ◌-◌, ℕ, ◌∷◌, ◌++◌, [], Bool, true, false, arith, sym, ap, ◌∙◌}
use Rattle.std.specs.Prelude.{if◌then◌else◌}
use Rattle.mari_market.specs.declared.prefix.Prefix.{Prefix}
use Rattle.mari_market.specs.Prefix.{word_of, bit_of}
use Rattle.mari_gates.specs.Preorder.{opened_child}
use Rattle.mari_gates.proofs.WaitingWords.{waiting_up, waiting_sibling, parent_feasible, opened_read, length_feasible}
use Rattle.mari_gates.proofs.preorder.next_after.Goals as goal
use Rattle.mari_gates.proofs.preorder.next_after.Goals.{else-not-was_open-via-then-not-was_open+else-may_branch_up, else-not-was_open-via-else-not-was_open}

pub opens-was_open-requires : goal.opens-was_open-requires
opens-was_open-requires c = omega (arith, length_feasible c.args.market.now c.loop-at.at c.loop-at.invariant.feasible, c.requires.market.few_gates)

pub without_last-at-requires-clause-few : goal.without_last-at-requires-clause-few
without_last-at-requires-clause-few c = omega (arith, length_feasible c.args.market.now c.loop-at.at c.loop-at.invariant.feasible, c.requires.market.few_gates)

pub may_branch_up-requires-clause-prefix : goal.may_branch_up-requires-clause-prefix
may_branch_up-requires-clause-prefix c =
    parent_feasible c.args.market.now c.loop-at.at c.without_last-at.result _ c.requires.market c.loop-at.invariant.feasible
    c.without_last-at.ensures.word c.without_last-at.ensures.cleared

pub may_branch_up-requires-clause-undecided : goal.may_branch_up-requires-clause-undecided
may_branch_up-requires-clause-undecided c = omega (arith, length_feasible c.args.market.now c.loop-at.at c.loop-at.invariant.feasible, c.without_last-at.ensures.length)

pub child_of-requires-clause-room : goal.child_of-requires-clause-room
child_of-requires-clause-room c = omega (arith, length_feasible c.args.market.now c.loop-at.at c.loop-at.invariant.feasible, c.without_last-at.ensures.length, c.requires.market.few_gates)

-- the last decision of the prefix
last_bit : (at : Prefix) (n : ℕ) (answer : Bool) → answer ≡ bit_of at (at.length - 1) → n + 1 ≡ at.length → bit_of at n ≡ answer
last_bit at n answer e l = ap (bit_of at) (omega arith) ∙ sym e

pub returns-then-may_branch_up-clause-left : goal.returns-then-may_branch_up-clause-left
returns-then-may_branch_up-clause-left c =
    let gates = c.args.market.now.gates in
    let at = c.loop-at.at in
    let up = c.without_last-at.result in
    let bit : bit_of at up.length ≡ false = last_bit at up.length _ c.opens-was_open.ensures c.without_last-at.ensures.length ∙ c.if-not-was_open.true in
    let may : opened_child gates (word_of up) ≡ (word_of up ++ true ∷ []) ∷ [] =
    opened_read gates (word_of up) _ c.may_branch_up.ensures.children ∙ ap (λ (b : Bool). if b then (word_of up ++ true ∷ []) ∷ [] else []) c.if-may_branch_up.true in
    waiting_sibling gates at up c.child_of.result _ c.without_last-at.ensures.word bit may c.child_of.ensures.word ∙ sym c.loop-at.invariant.left

pub loop-at-preserved : goal.loop-at-preserved
loop-at-preserved c =
    let gates = c.args.market.now.gates in
    let at = c.loop-at.at in
    let up = c.without_last-at.result in
    let none : bit_of at up.length ≡ false → opened_child gates (word_of up) ≡ [] = elim c.else-not-was_open.branch [
      | else-not-was_open-via-then-not-was_open+else-may_branch_up w ↦ λ e. opened_read gates (word_of up) _ w.may_branch_up.ensures.children
          ∙ ap (λ (b : Bool). if b then (word_of up ++ true ∷ []) ∷ [] else []) w.if-may_branch_up.false
      | else-not-was_open-via-else-not-was_open w ↦ λ e. absurd (cc (last_bit at up.length _ c.opens-was_open.ensures c.without_last-at.ensures.length, w.if-not-was_open.false))
    ] in
    record {
      left = c.loop-at.invariant.left ∙ waiting_up gates at up _ c.without_last-at.ensures.word none;
      feasible = parent_feasible c.args.market.now at up _ c.requires.market c.loop-at.invariant.feasible c.without_last-at.ensures.word c.without_last-at.ensures.cleared;
    }
