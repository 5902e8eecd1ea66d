use Rattle.std.proofs.Common.{take}
use Rattle.mari_market.specs.declared.along.Along.TheVariants.{Rising}
use Rattle.mari_market.specs.Along.{LeadsTo}
use Rattle.mari_proofs.proofs.conflicts.leads.Given as goal

abbrev pub invariant-loop-i : goal.invariant-loop-i
invariant-loop-i l = LeadsTo Rising (take l.i l.borders) (take l.i l.flow) l.first l.second → ⊥
