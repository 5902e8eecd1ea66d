use Rattle.mari_stream.proofs.Reported.{no-reported}
use Rattle.mari_stream.proofs.Stops.{one-fault, one-whole, whole-fault}
use Rattle.mari_stream.proofs.laws.texts_have_one_answer.Goals as goal

pub returns-clause-parts : goal.returns-clause-parts
returns-clause-parts g c = one-whole g.F.TextForm.form c.keep_lines.ensures

pub returns-clause-whole : goal.returns-clause-whole
returns-clause-whole g c = whole-fault g.F.TextForm.form c.keep_lines.ensures

pub returns-clause-fault : goal.returns-clause-fault
returns-clause-fault g c = one-fault g.F.TextForm.form c.keep_lines.ensures

pub returns-clause-reported : goal.returns-clause-reported
returns-clause-reported g c = no-reported g.F.TextForm.form c.keep_lines.ensures
