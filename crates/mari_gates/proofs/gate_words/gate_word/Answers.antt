use Rattle.std.proofs.Common.{arith, length, ◌≡◌, ◌<◌, ◌∙◌, ℕ, [], ap, sym}
use Rattle.std.proofs.lemmas.List.FromFn.{length-map-range_with_len}
use Rattle.mari_market.specs.Activation.{gate_word_of, is_open}
use Rattle.mari_market.specs.declared.activation.Activation.{Activation}
use Rattle.mari_market.specs.declared.market.Market.{Market}
use Rattle.mari_market.specs.declared.prefix.Prefix.{Prefix}
use Rattle.mari_market.specs.Market.{IsValid}
use Rattle.mari_market.specs.Optimal.{IsFeasible}
use Rattle.mari_market.specs.Prefix.{bit_of, word_of, IsCleared, IsFeasiblePrefix}
use Rattle.mari_market.proofs.Conflicts.{none_past}
use Rattle.mari_market.proofs.GateRuns.{marks_more}
use Rattle.mari_gates.proofs.GateWords.{as_many, marked, marks_feasible, none_set, word_of_marks}
use Rattle.mari_gates.proofs.gate_words.gate_word.Goals as goal

-- a word that decides no gate is marked as it should be, where there are none
module _ (m : Market) (a : Activation) (x : Prefix) (v : IsValid m) (f : IsFeasible m a) (decides : word_of x ≡ []) (cleared : IsCleared x) (none : length m.gates ≡ 0) where
  no_length : x.length ≡ length m.gates
  no_length = sym (length-map-range_with_len (bit_of x) 0 x.length) ∙ ap length decides ∙ sym none

  no_bits : (g : ℕ) → g < 512 → bit_of x g ≡ is_open m a g
  no_bits g l = none_set x g decides cleared l ∙ sym (none_past m.zones (length m.gates) g m.orders a.mw v.orders (omega (arith, none)))

  no_word : word_of x ≡ gate_word_of m a
  no_word = word_of_marks m a x v no_length no_bits

  no_marks : IsFeasiblePrefix m x
  no_marks = marks_feasible m a x v f no_length no_bits

pub returns-then-gates-eq0 : goal.returns-then-gates-eq0
returns-then-gates-eq0 c =
    let m = c.args.market.now in
    let a = c.args.activation.now in
    let x = c.empty_prefix-word.result in
    let v = c.requires.market in
    let f = c.requires.activation in
    let empty = c.empty_prefix-word.ensures in
    let none : length m.gates ≡ 0 = ap length (sym c.as_slice-gates.ensures) ∙ c.if-gates-eq0.true in
    record {
      word = no_word m a x v f empty.word empty.cleared none;
      length = no_length m a x v f empty.word empty.cleared none;
      feasible = no_marks m a x v f empty.word empty.cleared none;
    }

pub bounds-mw-i : goal.bounds-mw-i
bounds-mw-i c = omega (arith, as_many c.args.market.now c.args.activation.now _ _ c.requires.activation c.as_slice-order-items.ensures c.as_slice-mw.ensures)

pub loop-i-preserved : goal.loop-i-preserved
loop-i-preserved c =
    let os = c.as_slice-order-items.result.now in
    let qs = c.as_slice-mw.result.now in
    let many : length qs ≡ length os = as_many c.args.market.now c.args.activation.now os qs c.requires.activation c.as_slice-order-items.ensures c.as_slice-mw.ensures in
    record {
      decided = c.mark.ensures.length ∙ c.loop-i.invariant.decided;
      bits = λ g l. marks_more g os qs c.loop-i.i _ _ _ c.loop-i-test.true (omega (arith, many)) (c.loop-i.invariant.bits g l) (c.mark.ensures.bits g);
    }

pub returns-clause-word : goal.returns-clause-word
returns-clause-word c =
    let os = c.as_slice-order-items.result.now in
    let qs = c.as_slice-mw.result.now in
    let many : length qs ≡ length os = as_many c.args.market.now c.args.activation.now os qs c.requires.activation c.as_slice-order-items.ensures c.as_slice-mw.ensures in
    word_of_marks c.args.market.now c.args.activation.now c.loop-i.word c.requires.market c.loop-i.invariant.decided
    (λ g l. marked c.args.market.now c.args.activation.now os qs c.loop-i.i g _ c.as_slice-order-items.ensures c.as_slice-mw.ensures c.loop-i-test.false (omega (arith, many))
    (c.loop-i.invariant.bits g l))

pub returns-clause-feasible : goal.returns-clause-feasible
returns-clause-feasible c =
    let os = c.as_slice-order-items.result.now in
    let qs = c.as_slice-mw.result.now in
    let many : length qs ≡ length os = as_many c.args.market.now c.args.activation.now os qs c.requires.activation c.as_slice-order-items.ensures c.as_slice-mw.ensures in
    marks_feasible c.args.market.now c.args.activation.now c.loop-i.word c.requires.market c.requires.activation c.loop-i.invariant.decided
    (λ g l. marked c.args.market.now c.args.activation.now os qs c.loop-i.i g _ c.as_slice-order-items.ensures c.as_slice-mw.ensures c.loop-i-test.false (omega (arith, many))
    (c.loop-i.invariant.bits g l))
