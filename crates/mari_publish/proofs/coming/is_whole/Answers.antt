use Rattle.std.proofs.Common.{ap, length, arith}
use Rattle.std.proofs.lemmas.List.{length-drop}
use Rattle.mari_publish.proofs.coming.is_whole.Goals as goal

pub returns-then-coming-len-clause-unfinished : goal.returns-then-coming-len-clause-unfinished
returns-then-coming-len-clause-unfinished c = λ no w.
    let len = length-drop c.args.coming.now.handled c.args.coming.now.bytes.items in
    let none = ap length w.none in
    absurd (omega (arith, len, none, c.len.ensures, c.if-coming-len.true))
