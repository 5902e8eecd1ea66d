use Rattle.std.proofs.Common.{take}
use Rattle.std.specs.List.{All}
use Rattle.mari_islands.specs.Uniting.{AreSound, StayUnited, UnitesOwn}
use Rattle.mari_islands.proofs.firsts.unite_by_orders.Given as goal

-- the orders so far are united with the zones that stand for their gates
abbrev pub invariant-loop-order : goal.invariant-loop-order
invariant-loop-order l = record {
  sound : AreSound l.market l.firsts;
  united : All (UnitesOwn l.homes l.firsts) (take l.order-index l.order-items);
  stay : StayUnited l.initial.firsts l.firsts;
}
