use Rattle.mari_rows.proofs.RowLemmas.{fault-among}
use Rattle.mari_rows.proofs.WideLemmas.{known-after}
use Rattle.mari_rows.proofs.tested_rows.TestedRows.read.Goals as goal

pub returns-in-Some-clause-fault : goal.returns-in-Some-clause-fault
returns-in-Some-clause-fault c =
    let rows = c.args.self.now in
    fault-among rows.width rows.rows c.in-Some.fault c.in-Some.ensures

pub returns-clause-wide : goal.returns-clause-wide
returns-clause-wide c = known-after c.args.self.now c.read_of_width.new.self c.read_of_width.new.row c.read_of_width.result c.requires c.read_of_width.ensures.none c.read_of_width.ensures.read
