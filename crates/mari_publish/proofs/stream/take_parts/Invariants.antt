use Rattle.std.proofs.Common.{◌≤◌, ◌-◌, ℕ, List}
use Rattle.mari_publish.specs.declared.publication.Part.{Part}
use Rattle.mari_publish.proofs.PartCounts.{count_of}
use Rattle.mari_publish.specs.Streams.{HasTaken}
use Rattle.mari_publish.proofs.stream.take_parts.Given as goal

-- some more parts of the text were taken
abbrev pub invariant-parts : goal.invariant-parts
invariant-parts g l = record {
  taken : (first : g.row.P.Denot) (lent : g.row.W.Denot) (text : List ℕ) (parts : List Part)
      → HasTaken (g.P.PartsSoFar.Took first lent l.fn.so_far l.fn.with) text parts l.fn.reader.come
      → (after : List Part) × HasTaken (g.P.PartsSoFar.Took first lent l.so_far l.with) text after l.reader.come;
  faults : g.P.PartsSoFar.faults l.fn.with ≤ g.P.PartsSoFar.faults l.with;
}

-- the number of parts that may still come: a publication has at most 1,002
abbrev pub decreases-parts : goal.decreases-parts
decreases-parts g l = 1002 - count_of l.reader.come.kept
