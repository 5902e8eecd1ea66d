use Rattle.std.proofs.Common.{arith}
use Rattle.std.proofs.lemmas.Grind.{common_steps}
use Rattle.mari_progress.proofs.lines.border_lines.Goals as goal

pub loop-border-preserved : goal.loop-border-preserved
loop-border-preserved c = record {
  from = grind (arith, common_steps);
  to = grind (arith, common_steps);
  flow = grind (arith, common_steps);
  rents = grind (arith, common_steps);
}
