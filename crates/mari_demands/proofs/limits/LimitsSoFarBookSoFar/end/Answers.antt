use Rattle.std.proofs.Common.{refl}
use Rattle.mari_demands.proofs.LimitLemmas.{kept-table}
use Rattle.mari_demands.proofs.limits.LimitsSoFarBookSoFar.end.Goals as goal

pub returns : goal.returns
returns c = λ lines holds. (refl, rw c.as_slice.ensures (kept-table c.args.self.zones.now c.args.self.borders.now c.args.self.runs lines c.args.self.limits.items holds.limits))
