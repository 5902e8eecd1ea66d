use Rattle.std.proofs.Common.{◌≡◌, ◌<◌, ℕ}
use Rattle.mari_market.specs.Prefix.{bit_of}
use Rattle.mari_reach.specs.Values.{is_needed_in}
use Rattle.mari_reach.proofs.leaves.is_early.Given as goal

abbrev pub invariant-loop-gate : goal.invariant-loop-gate
invariant-loop-gate l = (g : ℕ) → g < l.gate → is_needed_in l.market l.state l.potentials.cents g ≡ bit_of l.word g
