use Rattle.std.proofs.Common.{take}
use Rattle.mari_feed.proofs.Gathered.{Begun}
use Rattle.mari_feed.proofs.form.read_list.Given as goal

-- those so far were read from the values so far
abbrev pub invariant-loop-item : goal.invariant-loop-item
invariant-loop-item g l = Begun g.F.Printed.InItsRange g.F.Printed.written l.items.items (take l.item-index l.values)
