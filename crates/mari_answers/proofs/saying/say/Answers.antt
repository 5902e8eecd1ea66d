use Rattle.std.proofs.Common.{refl}
use Rattle.mari_answers.specs.Reports.Reports.{CutOff}
use Rattle.mari_answers.proofs.saying.say.Goals as goal

pub returns-in-Err-clause-reports : goal.returns-in-Err-clause-reports
returns-in-Err-clause-reports g c = CutOff refl c.in-Err.ensures.part
