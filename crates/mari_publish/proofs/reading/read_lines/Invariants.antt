use Rattle.std.proofs.Common.{length}
use Rattle.mari_publish.specs.Gathering.{seen}
use Rattle.mari_publish.proofs.Progress.{Progress}
use Rattle.mari_publish.proofs.reading.read_lines.Given as goal

-- the lines read so far begin a publication
abbrev pub invariant-loop-here : goal.invariant-loop-here
invariant-loop-here l = Progress l.bytes l.rest l.number (seen l.gathered) l.kept

abbrev pub decreases-loop-here : goal.decreases-loop-here
decreases-loop-here l = length l.rest
