use Rattle.std.proofs.Common.{◌≡◌, ◌||◌, ◌<◌, ℕ, length, take}
use Rattle.mari_market.specs.Prefix.{opens_in}
use Rattle.mari_reach.specs.State.{closes}
use Rattle.mari_reach.proofs.closing.mark_closed.Given as goal

abbrev pub invariant-loop-decision : goal.invariant-loop-decision
invariant-loop-decision l = (g : ℕ) → g < length l.market.gates → opens_in l.marks g ≡ (opens_in l.fn.marks g || closes l.market (take l.decision-index l.decisions) g)
