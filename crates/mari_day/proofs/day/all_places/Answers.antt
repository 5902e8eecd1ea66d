use Rattle.std.proofs.Common.{sym, add-one, arith}
use Rattle.mari_units.proofs.Lists.{range_more}
use Rattle.mari_day.proofs.day.all_places.Goals as goal

pub loop-place-preserved : goal.loop-place-preserved
loop-place-preserved c = rw (c.in_ok-push.ensures.items, c.loop-place.invariant, add-one) (sym (range_more 0 c.loop-place.place c.loop-place.place (omega arith)))
