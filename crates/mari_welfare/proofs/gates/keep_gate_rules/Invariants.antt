use Rattle.std.proofs.Common.{ℕ, ◌<◌}
use Rattle.mari_welfare.specs.Gates.{KeepsRulesAt}
use Rattle.mari_market.specs.Prefix.{opens_in}
use Rattle.mari_welfare.proofs.gates.keep_gate_rules.Given as goal

abbrev pub invariant-loop-place : goal.invariant-loop-place
invariant-loop-place l = (g : ℕ) → g < l.place → KeepsRulesAt l.gates (opens_in l.opened) g
