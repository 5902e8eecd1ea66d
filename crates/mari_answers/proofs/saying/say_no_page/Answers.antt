use Rattle.mari_answers.proofs.Reporting.{page_reported, page_starved, same_text}
use Rattle.mari_answers.proofs.saying.say_no_page.Goals as goal

pub returns-in-Ok-clause-reports : goal.returns-in-Ok-clause-reports
returns-in-Ok-clause-reports g c = page_reported c.args.file c.args.why _ _ _ _ _ c.in-Ok.ensures.line (same_text _ _ _ _ _ _ c.deref.ensures.value c.say.ensures.reports)

pub returns-in-Err-clause-reports : goal.returns-in-Err-clause-reports
returns-in-Err-clause-reports g c = page_starved c.args.file c.args.why _
