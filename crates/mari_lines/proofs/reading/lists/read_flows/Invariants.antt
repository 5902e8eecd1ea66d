use Rattle.std.proofs.Common.{length}
use Rattle.mari_units.specs.Numbers.{Within}
use Rattle.std.specs.Fmt.{signed_decimal}
use Rattle.mari_lines.proofs.Gathered.{Begun}
use Rattle.mari_lines.proofs.reading.lists.read_flows.Given as goal

-- those so far were gathered from the words so far
abbrev pub invariant-loop-word : goal.invariant-loop-word
invariant-loop-word l = Begun (λ flow. Within 199998 flow) signed_decimal 256 l.flows.items l.left l.fn.words

abbrev pub decreases-loop-word : goal.decreases-loop-word
decreases-loop-word l = length l.left
