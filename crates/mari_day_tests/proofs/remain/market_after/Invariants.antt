use Rattle.std.proofs.Common.{◌≡◌, ◌+◌, List, length}
use Rattle.mari_remain.specs.Blocks.{PastBlock}
use Rattle.mari_remain.specs.FirstBlocks.{StandsFor}
use Rattle.mari_day_tests.proofs.remain.market_after.Given as goal

-- what is kept stands for the blocks before the run that comes next
abbrev pub invariant-loop-at_run : goal.invariant-loop-at_run
invariant-loop-at_run l = (blocks : List PastBlock) × StandsFor l.books blocks l.remaining × (l.run ≡ length blocks + 1)
