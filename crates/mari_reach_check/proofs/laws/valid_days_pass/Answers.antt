use Rattle.mari_reach_check.proofs.Verdicts.{one-verdict}
use Rattle.mari_reach_check.proofs.laws.valid_days_pass.Goals as goal

pub returns : goal.returns
returns c = λ books p v valid h. one-verdict books p v valid h
