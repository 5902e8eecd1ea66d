use Rattle.std.proofs.Common.{arith}
use Rattle.mari_lines.proofs.Leading.{hundredths_then}
use Rattle.mari_lines.proofs.reading.leading.leading_hundredths.Goals as goal

pub returns : goal.returns
returns c =
    let whole = c.in_ok-whole.ensures in
    let parts = c.in_ok-tenths.ensures in
    (omega arith, hundredths_then _ _ _ _ c.args.text.now _ _ whole.1 parts (grind arith) (grind arith) (grind arith))
