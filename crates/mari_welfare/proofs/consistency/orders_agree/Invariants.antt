use Rattle.std.proofs.Common.{take}
use Rattle.std.specs.List.{AllZip}
use Rattle.mari_market.specs.Consistent.{IsConsistentOrder}
use Rattle.mari_market.specs.Prefix.{opens_in}
use Rattle.mari_welfare.proofs.consistency.orders_agree.Given as goal

abbrev pub invariant-loop-i : goal.invariant-loop-i
invariant-loop-i l = AllZip (IsConsistentOrder (opens_in l.opened) l.prices) (take l.i l.orders) (take l.i l.mw)
