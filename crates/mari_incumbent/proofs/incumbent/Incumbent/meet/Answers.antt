use Rattle.std.proofs.Common.{rules}
use Rattle.mari_incumbent.proofs.Keeps.{notes, joins}
use Rattle.mari_incumbent.proofs.incumbent.Incumbent.meet.Goals as goal

pub split_seat-note-requires : goal.split_seat-note-requires
split_seat-note-requires c = (search rules, search rules, notes _ _ _ _)

pub join_seat-requires : goal.join_seat-requires
join_seat-requires c = (search rules, search rules, search rules, search rules, joins _ _ _ _ _ _ c.into.invariant.1)
