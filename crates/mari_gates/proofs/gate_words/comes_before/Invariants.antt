use Rattle.std.proofs.Common.{◌≡◌, ℕ, ◌<◌}
use Rattle.mari_market.specs.Prefix.{bit_of}
use Rattle.mari_gates.proofs.gate_words.comes_before.Given as goal

-- no gate so far differs
abbrev pub invariant-loop-gate : goal.invariant-loop-gate
invariant-loop-gate l = (g : ℕ) → g < l.gate → bit_of l.prefix g ≡ bit_of l.word g
