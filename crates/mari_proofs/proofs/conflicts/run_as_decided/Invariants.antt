use Rattle.std.proofs.Common.{take}
use Rattle.std.specs.List.{AllZip}
use Rattle.mari_proofs.specs.Conflicts.{opens_gate, RunsAsDecided}
use Rattle.mari_proofs.proofs.conflicts.run_as_decided.Given as goal

abbrev pub invariant-loop-i : goal.invariant-loop-i
invariant-loop-i l = AllZip (λ o q. RunsAsDecided (opens_gate l.prefix) o.gate q) (take l.i l.orders) (take l.i l.mw)
