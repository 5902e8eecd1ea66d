use Rattle.std.proofs.Common.{length}
use Rattle.std.proofs.Common.{◌≤◌}
use Rattle.std.specs.Fmt.{decimal}
use Rattle.mari_lines.proofs.Gathered.{Begun}
use Rattle.mari_lines.proofs.reading.lists.read_mws.Given as goal

-- those so far were gathered from the words so far
abbrev pub invariant-loop-mw : goal.invariant-loop-mw
invariant-loop-mw l = Begun (λ mw. mw ≤ 99999) decimal 4608 l.mws.items l.left l.fn.words

abbrev pub decreases-loop-mw : goal.decreases-loop-mw
decreases-loop-mw l = length l.left
