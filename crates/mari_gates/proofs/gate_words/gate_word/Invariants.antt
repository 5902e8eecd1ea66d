use Rattle.std.proofs.Common.{◌≡◌, ℕ, ◌<◌, length, take}
use Rattle.mari_market.specs.Activation.{runs_gate}
use Rattle.mari_market.specs.Prefix.{bit_of}
use Rattle.mari_gates.proofs.gate_words.gate_word.Given as goal

-- the bits are those of the gates that the orders so far run
abbrev pub invariant-loop-i : goal.invariant-loop-i
invariant-loop-i l = record {
  decided : l.word.length ≡ length l.market.gates;
  bits : (g : ℕ) → g < 512 → bit_of l.word g ≡ runs_gate g (take l.i l.order-items) (take l.i l.mw);
}
