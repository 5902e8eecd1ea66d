use Rattle.std.proofs.Common.{◌≡◌, ◌||◌, ◌&&◌, ◌<◌, ℕ, length}
use Rattle.std.specs.List.{list_any, range_with_len}
use Rattle.mari_market.specs.Prefix.{opens_in}
use Rattle.mari_reach.specs.State.{are_rivals}
use Rattle.mari_reach.proofs.closing.mark_rivals.Given as goal

abbrev pub invariant-loop-gate : goal.invariant-loop-gate
invariant-loop-gate l = (g : ℕ) → g < length l.gates → opens_in l.marks g ≡ (opens_in l.fn.marks g || list_any (λ h. are_rivals l.gates g h && opens_in l.opened h) (range_with_len 0 l.gate))
