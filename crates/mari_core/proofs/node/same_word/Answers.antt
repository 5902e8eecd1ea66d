use Rattle.std.proofs.Common.{◌≡◌, Bool, true, refl, ℕ, ◌<◌, Some, length, arith, ap, sym, ◌∙◌}
use mathlib.Core.Bool.{not, beq}
use Rattle.std.specs.Prelude.{slice_get}
use Rattle.mari_market.specs.Prefix.{bit_of, word_of}
use Rattle.mari_gates.proofs.Decisions.{length-decisions, get-decisions, same_decisions}
use Rattle.mari_gates.specs.Prefixes.{decisions}
use Rattle.mari_core.proofs.node.same_word.Goals as goal

unequal : (a b : Bool) → not (beq a b) ≡ true → a ≡ b → ⊥
unequal a b t e = grind arith

pub returns-then-one-other : goal.returns-then-one-other
returns-then-one-other c = (
  λ t. absurd (cc),
  λ (e : word_of c.args.one.now ≡ word_of c.args.other.now). absurd
      (c.if-one-other.true (sym (length-decisions c.args.one.now c.args.one.now.length) ∙ ap length e ∙ length-decisions c.args.other.now c.args.other.now.length)),
)

pub returns-then-opens : goal.returns-then-opens
returns-then-opens c =
    let same : c.args.one.now.length ≡ c.args.other.now.length = omega arith in
    let g = c.loop-gate.gate in
    let at : (e : word_of c.args.one.now ≡ word_of c.args.other.now) → Some (bit_of c.args.one.now g) ≡ Some (bit_of c.args.other.now g) = λ e.
    sym (get-decisions c.args.one.now c.args.one.now.length g c.loop-gate-test.true) ∙ ap (λ w. slice_get w g) e ∙ get-decisions c.args.other.now c.args.other.now.length g (omega arith) in
    (λ t. absurd (cc), λ e. absurd (unequal _ _ c.if-opens.true (c.opens.ensures ∙ (let both = at e in cc) ∙ sym c.opens-in-loop-gate.ensures)))

pub returns : goal.returns
returns c =
    let same : c.args.one.now.length ≡ c.args.other.now.length = omega arith in
    let bits : (g : ℕ) → g < c.args.one.now.length → bit_of c.args.one.now g ≡ bit_of c.args.other.now g = λ g l. c.loop-gate.invariant g (omega arith) in
    (λ t. same_decisions c.args.other.now c.args.one.now c.args.one.now.length bits ∙ ap (decisions c.args.other.now) same, λ e. refl)
