use Rattle.std.proofs.Common.{rules}
use Rattle.mari_incumbent.proofs.Keeps.{joins}
use Rattle.mari_incumbent.proofs.incumbent.Incumbent.join.Goals as goal

pub join_seat-requires : goal.join_seat-requires
join_seat-requires c = (search rules, search rules, search rules, search rules, joins _ _ _ _ _ _ c.into.invariant.1)
