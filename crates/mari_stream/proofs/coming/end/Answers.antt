use Rattle.std.proofs.Common.{ap, length, arith}
use Rattle.std.proofs.lemmas.List.{length-drop}
use Rattle.mari_stream.specs.Coming.{come_of}
use Rattle.mari_stream.proofs.LineByLine.{cut-off}
use Rattle.mari_stream.proofs.coming.end.Goals as goal

pub returns-then-coming-len : goal.returns-then-coming-len
returns-then-coming-len g c = λ text parts all.
    let coming = c.args.coming.now in
    let len = length-drop coming.handled coming.bytes.items in
    cut-off g.F.TextForm.form c.keep_lines.ensures (come_of coming) text parts all
    (λ whole none done. let empty = ap length none in absurd (omega (arith, len, empty, c.len.ensures, c.if-coming-len.true)))
