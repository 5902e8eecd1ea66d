use Rattle.std.proofs.Common.{length}
use Rattle.mari_network.specs.Network.{Runs}
use Rattle.mari_network.specs.Searching.{HasZones}
use Rattle.mari_network.proofs.Worths.{room_left}
use Rattle.mari_flow.proofs.run.run.Given as goal

abbrev pub invariant-loop-search : goal.invariant-loop-search
invariant-loop-search l = record {
  runs : Runs l.network l.amounts l.flows;
  search : HasZones (length l.network.meeting.now) l.search;
}

abbrev pub decreases-loop-search : goal.decreases-loop-search
decreases-loop-search l = room_left l.network.slots.now l.amounts
