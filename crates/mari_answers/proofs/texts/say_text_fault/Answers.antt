use Rattle.std.proofs.Common.{◌∙◌, sym}
use Rattle.mari_answers.proofs.Naming.{same-refusal, text-named}
use Rattle.mari_answers.proofs.texts.say_text_fault.Goals as goal

pub say_refused-requires-clause-file : goal.say_refused-requires-clause-file
say_refused-requires-clause-file g c = (text-named c.args.fault c.in-Some.refusal (sym c.in-Some.is ∙ c.text_refusal.ensures)).0

pub say_refused-requires-clause-name : goal.say_refused-requires-clause-name
say_refused-requires-clause-name g c = (text-named c.args.fault c.in-Some.refusal (sym c.in-Some.is ∙ c.text_refusal.ensures)).1

pub returns-in-Some-clause-reports : goal.returns-in-Some-clause-reports
returns-in-Some-clause-reports g c = same-refusal _ _ _ _ _ (sym c.in-Some.is ∙ c.text_refusal.ensures) c.say_refused.ensures.reports
