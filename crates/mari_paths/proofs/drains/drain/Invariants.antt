use Rattle.std.proofs.Common.{◌≡◌, length, ◌<ℤ◌}
use Rattle.mari_market.specs.Sums.{sum_along}
use Rattle.mari_network.specs.Searching.{IsMovedAlong}
use Rattle.mari_network.specs.Slots.{slot_gain}
use Rattle.mari_network.specs.Margins.{AreMarginsOf}
use Rattle.mari_network.specs.Network.{Runs}
use Rattle.mari_paths.specs.Drains.{AreHops}
use Rattle.mari_network.proofs.Worths.{room_left}
use Rattle.mari_paths.proofs.drains.drain.Given as goal

abbrev pub invariant-loop-amounts : goal.invariant-loop-amounts
invariant-loop-amounts l = record {
  runs : Runs l.network l.amounts l.flows;
  worth : l.worth ≡ sum_along slot_gain l.network.slots.now l.amounts;
  margins : AreMarginsOf l.network l.amounts l.margins;
  hops : AreHops (length l.network.meeting.now) l.network.borders.now l.chain.hops.items;
  same : l.chain.hops ≡ l.fn.chain.hops;
  along : IsMovedAlong l.network.slots.now l.network.borders.now l.fn.chain.hops.items l.fn.amounts l.fn.flows l.amounts l.flows;
  rises : sum_along slot_gain l.network.slots.now l.fn.amounts <ℤ sum_along slot_gain l.network.slots.now l.amounts;
}

abbrev pub decreases-loop-amounts : goal.decreases-loop-amounts
decreases-loop-amounts l = room_left l.network.slots.now l.amounts
