use Rattle.std.proofs.Common.{◌<◌, ℕ}
use Rattle.mari_network.specs.Margins.{AreMarginsOfThese}
use Rattle.mari_paths.specs.Warm.{IsPlain}
use Rattle.mari_paths.proofs.margins.plain_margins.Given as goal

abbrev pub invariant-loop-i : goal.invariant-loop-i
invariant-loop-i l = AreMarginsOfThese (λ (k : ℕ). (k < l.i) × IsPlain l.market k) l.slots l.amounts l.market.zones l.margins.items
