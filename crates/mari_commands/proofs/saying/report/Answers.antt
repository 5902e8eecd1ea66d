use Rattle.mari_answers.proofs.Reporting.{same_text}
use Rattle.mari_commands.proofs.saying.report.Goals as goal

pub returns-in-NoCommand-clause-reported : goal.returns-in-NoCommand-clause-reported
returns-in-NoCommand-clause-reported g c = rw c.in-NoCommand.is (same_text _ _ _ _ _ _ c.usage_line.ensures c.say.ensures.reports)

pub returns-in-Text-clause-reported : goal.returns-in-Text-clause-reported
returns-in-Text-clause-reported g c = rw c.in-Text.is (same_text _ _ _ _ _ _ c.deref-in-Text.ensures.value c.say-in-Text.ensures.reports)

pub returns-in-NoPage-clause-reported : goal.returns-in-NoPage-clause-reported
returns-in-NoPage-clause-reported g c = rw c.in-NoPage.is c.say_no_page.ensures.reports

pub returns-in-Refused-clause-reported : goal.returns-in-Refused-clause-reported
returns-in-Refused-clause-reported g c = rw c.in-Refused.is c.say_refused.ensures.reports

pub returns-in-Invalid-clause-reported : goal.returns-in-Invalid-clause-reported
returns-in-Invalid-clause-reported g c = rw c.in-Invalid.is c.say_invalid.ensures.reports

pub returns-in-Day-clause-reported : goal.returns-in-Day-clause-reported
returns-in-Day-clause-reported g c = rw c.in-Day.is c.clear_alone.ensures.reports

pub returns-in-Feed-clause-untouched : goal.returns-in-Feed-clause-untouched
returns-in-Feed-clause-untouched g c = λ none. absurd (none (rw c.in-Feed.is tt))

pub returns-in-Blocks-clause-reported : goal.returns-in-Blocks-clause-reported
returns-in-Blocks-clause-reported g c = rw c.in-Blocks.is c.join_alone.ensures.reported

pub returns-in-Blocks-clause-untouched : goal.returns-in-Blocks-clause-untouched
returns-in-Blocks-clause-untouched g c = λ none. absurd (none (rw c.in-Blocks.is tt))
