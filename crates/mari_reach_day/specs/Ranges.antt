-- The numbers of a block are in range, so that its text can be written.
use Rattle.std.specs.Prelude.{◌≤◌, length}
use Rattle.mari_publish.specs.Ranges.{EndingFits, MarketFits}
use Rattle.mari_reach_lines.specs.Ranges.{IsClaim}
use Rattle.mari_reach_day.specs.declared.block.ReachBlock.{ReachBlock}
use Rattle.mari_units.specs.declared.limits.TheConstants.{MOST_NODES}

pub record ReachFits (r : ReachBlock) : Type 0 where
  pub market : MarketFits r.block
  pub ending : EndingFits r.block
  pub claim : IsClaim r.claim
  pub tree : length r.tree ≤ MOST_NODES
