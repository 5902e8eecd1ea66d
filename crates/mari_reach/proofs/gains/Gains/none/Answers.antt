use Rattle.mari_reach.proofs.Ranges.{all_zero}
use Rattle.mari_reach.proofs.gains.Gains.none.Goals as goal

pub returns : goal.returns
returns c = λ g. all_zero 512 g
