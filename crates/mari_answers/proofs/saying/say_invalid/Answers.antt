use Rattle.std.proofs.Common.{◌∙◌}
use Rattle.mari_answers.proofs.Reporting.{same_report}
use Rattle.mari_answers.proofs.saying.say_invalid.Goals as goal

pub returns-in-Ok-clause-reports : goal.returns-in-Ok-clause-reports
returns-in-Ok-clause-reports g c = same_report _ _ _ _ _ _ _ (c.deref.ensures.value ∙ c.in-Ok.ensures.line) c.in-Ok.ensures.status c.say.ensures.reports
