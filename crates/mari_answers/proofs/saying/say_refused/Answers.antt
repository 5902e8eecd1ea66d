use Rattle.std.proofs.Common.{◌∙◌}
use Rattle.mari_answers.proofs.Reporting.{same_text}
use Rattle.mari_answers.proofs.saying.say_refused.Goals as goal

pub returns-in-Ok-clause-reports : goal.returns-in-Ok-clause-reports
returns-in-Ok-clause-reports g c = same_text _ _ _ _ _ _ (c.deref.ensures.value ∙ c.in-Ok.ensures) c.say.ensures.reports
