use Rattle.std.proofs.Common.{refl}
use Rattle.mari_check.proofs.day.DayCheck.start.Goals as goal

pub returns : goal.returns
returns c = record { free = λ k b e. cc e; progress = c.in_ok-progress.ensures; unpublished = refl }
