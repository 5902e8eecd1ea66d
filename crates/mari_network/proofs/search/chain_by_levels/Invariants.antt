use Rattle.std.proofs.Common.{◌≡◌, not}
use Rattle.std.specs.Prelude.{count_by}
use Rattle.mari_market.specs.Sums.{int_at}
use Rattle.mari_network.specs.Levels.{AreLevels}
use Rattle.mari_network.proofs.search.chain_by_levels.Given as goal

abbrev pub invariant-loop-sink : goal.invariant-loop-sink
invariant-loop-sink l = record {
  levels : AreLevels l.network.slots.now l.network.borders.now l.amounts l.flows l.marked (int_at l.prices);
  left : l.left ≡ count_by not l.marked;
}

abbrev pub decreases-loop-sink : goal.decreases-loop-sink
decreases-loop-sink l = count_by not l.marked
