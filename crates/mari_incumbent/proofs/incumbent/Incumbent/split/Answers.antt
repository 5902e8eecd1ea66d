use Rattle.std.proofs.Common.{rules}
use Rattle.mari_incumbent.proofs.Keeps.{splits}
use Rattle.mari_incumbent.proofs.incumbent.Incumbent.split.Goals as goal

pub split_seat-place-requires : goal.split_seat-place-requires
split_seat-place-requires c = (search rules, search rules, splits _ _ _ _ (search rules))
