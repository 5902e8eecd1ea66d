use Rattle.mari_answers.proofs.Naming.{by-name}
use Rattle.mari_answers.proofs.saying.say_no_books.Goals as goal

pub say_refused-requires-clause-name : goal.say_refused-requires-clause-name
say_refused-requires-clause-name g c = by-name c.in-Refused.refusal (rw c.in-Refused.is at c.requires.check)
