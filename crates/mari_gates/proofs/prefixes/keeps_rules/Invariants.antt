use Rattle.mari_market.specs.Prefix.{IsFeasibleWord}
use Rattle.mari_gates.specs.Prefixes.{decisions}
use Rattle.mari_gates.proofs.prefixes.keeps_rules.Given as goal

abbrev pub invariant-loop-gate : goal.invariant-loop-gate
invariant-loop-gate l = IsFeasibleWord l.gates (decisions l.prefix l.gate)
