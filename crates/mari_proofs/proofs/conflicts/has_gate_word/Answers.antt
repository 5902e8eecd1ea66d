use Rattle.std.proofs.Common.{◌≡◌, length, arith, sym, ap, ◌∙◌}
use Rattle.std.proofs.lemmas.Bool.Decides.{nat_tests}
use Rattle.mari_market.specs.declared.market.Order.{Order}
use Rattle.mari_market.specs.Bounds.{IsWithin, own_bounds}
use Rattle.mari_market.specs.Activation.{gate_word_of}
use Rattle.mari_market.specs.Prefix.{word_of}
use Rattle.mari_proofs.proofs.GateWords.{lengths_read, word_test, length_of_word}
use Rattle.mari_proofs.proofs.conflicts.has_gate_word.Goals as goal

pub run_as_decided-requires-clause-lengths : goal.run_as_decided-requires-clause-lengths
run_as_decided-requires-clause-lengths c =
    lengths_read (λ (o : Order) q. IsWithin (own_bounds c.args.market.now c.args.activation.now o) q) c.args.market.now.orders _
    c.args.activation.now.mw _ c.requires.activation.orders c.as_slice-then-prefix-as_slice.ensures c.as_slice-then-prefix-as_slice-2.ensures

pub returns-then-prefix-as_slice : goal.returns-then-prefix-as_slice
returns-then-prefix-as_slice c =
    word_test c.args.market.now c.args.prefix.now c.args.activation.now _ _ _ c.requires.market c.requires.activation
    (c.if-prefix-as_slice.true ∙ ap length c.as_slice.ensures) c.as_slice-then-prefix-as_slice.ensures c.as_slice-then-prefix-as_slice-2.ensures
    c.run_as_decided.ensures

pub returns-else-prefix-as_slice : goal.returns-else-prefix-as_slice
returns-else-prefix-as_slice c =
    let never = λ (e : gate_word_of c.args.market.now c.args.activation.now ≡ word_of c.args.prefix.now). c.if-prefix-as_slice.false
    (length_of_word c.args.market.now c.args.prefix.now c.args.activation.now e ∙ sym (ap length c.as_slice.ensures)) in
    (λ yes. absurd (c.if-prefix-as_slice.false (grind (arith, nat_tests))), λ e. absurd (never e))
