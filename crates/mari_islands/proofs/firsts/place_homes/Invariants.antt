use Rattle.mari_islands.proofs.Homes.{AreHomesOf}
use Rattle.mari_islands.proofs.firsts.place_homes.Given as goal

-- those of the gates of the orders so far
abbrev pub invariant-loop-order : goal.invariant-loop-order
invariant-loop-order l = AreHomesOf l.market l.order-index l.homes
