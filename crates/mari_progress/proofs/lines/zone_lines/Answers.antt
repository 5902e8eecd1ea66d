use Rattle.std.proofs.Common.{arith}
use Rattle.std.proofs.lemmas.Grind.{common_steps}
use Rattle.mari_progress.proofs.lines.zone_lines.Goals as goal

pub loop-zone-preserved : goal.loop-zone-preserved
loop-zone-preserved c = record {
  names = grind (arith, common_steps);
  prices = grind (arith, common_steps);
  least = grind (arith, common_steps);
  greatest = grind (arith, common_steps);
  areas = grind (arith, common_steps);
}
