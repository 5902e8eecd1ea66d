use Rattle.mari_reach_text.proofs.Mirrors.{few_lines}
use Rattle.mari_reach_text.proofs.order.ReachKeptTextForm.lines_keep.Goals as goal

pub returns-clause-few : goal.returns-clause-few
returns-clause-few c = few_lines
