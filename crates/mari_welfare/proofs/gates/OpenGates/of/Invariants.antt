use Rattle.std.proofs.Common.{◌≡◌, ℕ, take}
use Rattle.mari_market.specs.Activation.{runs_gate}
use Rattle.mari_market.specs.Prefix.{opens_in}
use Rattle.mari_welfare.proofs.gates.OpenGates.of.Given as goal

abbrev pub invariant-loop-i : goal.invariant-loop-i
invariant-loop-i l = (g : ℕ) → opens_in l.opened g ≡ runs_gate g (take l.i l.order-items) (take l.i l.mw)
