use Rattle.std.proofs.Common.{◌≡◌}
use Rattle.mari_market.specs.Sums.{sum_along}
use Rattle.mari_network.specs.Slots.{slot_gain}
use Rattle.mari_network.specs.Margins.{AreMarginsOf}
use Rattle.mari_network.specs.Network.{Runs}
use Rattle.mari_network.specs.Searching.{HasLevels}
use Rattle.mari_network.proofs.Worths.{room_left}
use Rattle.mari_paths.proofs.run.run.Given as goal

abbrev pub invariant-loop-search : goal.invariant-loop-search
invariant-loop-search l = record {
  runs : Runs l.network l.amounts l.flows;
  worth : l.worth ≡ sum_along slot_gain l.network.slots.now l.amounts;
  margins : AreMarginsOf l.network l.amounts l.margins;
  search : HasLevels l.network l.amounts l.flows l.search;
}

abbrev pub decreases-loop-search : goal.decreases-loop-search
decreases-loop-search l = room_left l.network.slots.now l.amounts
