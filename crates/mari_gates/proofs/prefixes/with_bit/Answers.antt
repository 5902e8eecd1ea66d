use Rattle.std.proofs.Common.{w64, sym, ap, ◌∙◌}
use Rattle.std.specs.Prelude.{if◌then◌else◌}
use Rattle.std.proofs.lemmas.Nat.Bits.{bit_at_set_same, bit_at_set_other, bit_at_clear_same, bit_at_clear_other}
use Rattle.mari_gates.proofs.prefixes.with_bit.Goals as goal

pub returns-then-set-clause-same : goal.returns-then-set-clause-same
returns-then-set-clause-same c = bit_at_set_same w64 _ _ c.requires ∙ ap (λ b. if b then 1 else 0) (sym c.if-set.true)

pub returns-then-set-clause-others : goal.returns-then-set-clause-others
returns-then-set-clause-others c = λ i h n. bit_at_set_other w64 _ _ c.requires i n

pub returns-else-set-clause-same : goal.returns-else-set-clause-same
returns-else-set-clause-same c = bit_at_clear_same w64 _ _ c.requires ∙ ap (λ b. if b then 1 else 0) (sym c.if-set.false)

pub returns-else-set-clause-others : goal.returns-else-set-clause-others
returns-else-set-clause-others c = bit_at_clear_other w64 _ _ c.requires
