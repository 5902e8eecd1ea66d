use Rattle.mari_stream.proofs.LineByLine.{all-of-nothing}
use Rattle.mari_stream.proofs.coming.nothing_come.Goals as goal

pub returns-clause-all : goal.returns-clause-all
returns-clause-all g c = all-of-nothing g.F.TextForm.form c.keep_lines.ensures c.start.result c.new.result.items c.start.ensures c.new.ensures.items
