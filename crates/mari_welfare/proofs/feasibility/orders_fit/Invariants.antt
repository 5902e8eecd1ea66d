use Rattle.std.proofs.Common.{take}
use Rattle.std.specs.List.{AllZip}
use Rattle.mari_market.specs.Bounds.{IsWithin, bounds_by}
use Rattle.mari_market.specs.Prefix.{opens_in}
use Rattle.mari_welfare.proofs.feasibility.orders_fit.Given as goal

abbrev pub invariant-loop-i : goal.invariant-loop-i
invariant-loop-i l = AllZip (λ o q. IsWithin (bounds_by (opens_in l.opened) o) q) (take l.i l.orders) (take l.i l.mw)
