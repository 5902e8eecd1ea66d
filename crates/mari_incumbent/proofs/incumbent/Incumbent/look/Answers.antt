use Rattle.std.proofs.Common.{rules, ap}
use Rattle.mari_incumbent.proofs.Keeps.{looks_as}
use Rattle.mari_incumbent.proofs.incumbent.Incumbent.look.Goals as goal

pub load-found-requires : goal.load-found-requires
load-found-requires c = (search rules, search rules, looks_as _ _ _ _ _ (ap (λ m. m.1) c.seat.invariant.0))
