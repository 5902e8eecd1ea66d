use Rattle.std.proofs.Common.{◌≡◌, ℕ, ◌<◌}
use Rattle.mari_market.specs.Prefix.{bit_of}
use Rattle.mari_core.proofs.node.same_word.Given as goal

abbrev pub invariant-loop-gate : goal.invariant-loop-gate
invariant-loop-gate l = (g : ℕ) → g < l.gate → bit_of l.one g ≡ bit_of l.other g
