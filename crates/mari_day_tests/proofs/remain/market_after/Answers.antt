use Rattle.std.proofs.Common.{[], refl}
use Rattle.mari_day_tests.proofs.remain.market_after.Goals as goal

pub loop-at_run-init : goal.loop-at_run-init
loop-at_run-init c = ([], c.requires.stands, refl)
