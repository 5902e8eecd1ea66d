use Rattle.std.proofs.Common.{rules, ap}
use Rattle.mari_incumbent.proofs.Keeps.{offers_as}
use Rattle.mari_incumbent.proofs.incumbent.Incumbent.offer.Goals as goal

pub fetch_max-found-requires : goal.fetch_max-found-requires
fetch_max-found-requires c = (search rules, search rules, offers_as _ _ _ _ _ _ (ap (λ m. m.1) c.seat.invariant.0) c.seat.invariant.1)
