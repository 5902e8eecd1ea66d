use Rattle.std.proofs.Common.{length, subst, arith}
use Rattle.std.proofs.lemmas.List.{take_all}
use Rattle.mari_lines.specs.Reading.{Lacks}
use Rattle.mari_lines.proofs.Splits.{lacks_before, cut_at}
use Rattle.mari_lines.proofs.reading.separator.split_once.Goals as goal

pub returns-in-None : goal.returns-in-None
returns-in-None c =
    let bytes = c.args.bytes.now in
    subst (λ t. Lacks c.args.separator t) (take_all (length bytes) bytes (omega arith)) (lacks_before c.args.separator bytes (length bytes) (omega arith) c.in-None.ensures)

pub returns-in-Some : goal.returns-in-Some
returns-in-Some c =
    let found = c.in-Some.ensures in
    (lacks_before c.args.separator c.args.bytes.now c.in-Some.place (omega (arith, found.0.high)) found.0.before, cut_at c.args.separator c.args.bytes.now c.in-Some.place found.0.high found.1)
