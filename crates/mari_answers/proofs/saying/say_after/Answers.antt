use Rattle.std.proofs.Common.{refl}
use Rattle.mari_answers.specs.Reports.Reports.{CutOff}
use Rattle.mari_answers.proofs.Reporting.{cut_before, cut_after}
use Rattle.mari_answers.proofs.saying.say_after.Goals as goal

pub returns-in-Err-write_all-clause-reports : goal.returns-in-Err-write_all-clause-reports
returns-in-Err-write_all-clause-reports g c = CutOff refl (cut_after _ _ _ _ _ c.in-Ok.ensures.whole c.in-Err-write_all.ensures.part)

pub returns-in-Err-clause-reports : goal.returns-in-Err-clause-reports
returns-in-Err-clause-reports g c = CutOff refl (cut_before _ _ _ _ c.in-Err.ensures.part)
