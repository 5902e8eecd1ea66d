use Rattle.std.proofs.Common.{length}
use Rattle.mari_lines.specs.Ranges.{IsZone}
use Rattle.mari_lines.specs.Spelling.{zone_text}
use Rattle.mari_lines.proofs.Gathered.{Begun}
use Rattle.mari_lines.proofs.reading.lists.read_zones.Given as goal

-- those so far were gathered from the words so far
abbrev pub invariant-loop-word : goal.invariant-loop-word
invariant-loop-word l = Begun IsZone zone_text 64 l.zones.items l.left l.fn.words

abbrev pub decreases-loop-word : goal.decreases-loop-word
decreases-loop-word l = length l.left
