use Rattle.std.proofs.Common.{rules}
use Rattle.csv.specs.Records.{fields_of}
use Rattle.csv.proofs.RecordFacts.{field-there}
use Rattle.mari_rows.proofs.RowLemmas.{text_more}
use Rattle.mari_rows.proofs.records.each_is_text.Goals.{in-Some+else-not-is_text, in_default}
use Rattle.mari_rows.proofs.records.each_is_text.Goals as goal

pub loop-i-preserved : goal.loop-i-preserved
loop-i-preserved c =
    elim c.match-get.branch [
      | in-Some+else-not-is_text w ↦ text_more (fields_of c.args.row.now) c.loop-i.i w.in-Some.field.now (search rules) c.loop-i.invariant (search rules)
      | in_default w ↦ absurd (field-there (fields_of c.args.row.now) c.loop-i.i (search rules) (search rules))
    ]
