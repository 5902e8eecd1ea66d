use Rattle.std.proofs.Common.{◌≡◌, ◌<◌, ℕ, length, take}
use Rattle.mari_market.specs.Prefix.{opens_in}
use Rattle.mari_reach.specs.State.{opens}
use Rattle.mari_reach.proofs.closing.set_opened.Given as goal

abbrev pub invariant-loop-decision : goal.invariant-loop-decision
invariant-loop-decision l = (g : ℕ) → g < length l.market.gates → opens_in l.opened g ≡ opens l.market (take l.decision-index l.decisions) g
