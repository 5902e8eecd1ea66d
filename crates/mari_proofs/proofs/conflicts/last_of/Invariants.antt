use Rattle.std.proofs.Common.{◌≡◌, drop}
use Rattle.mari_market.specs.Conflict.{last_of}
use Rattle.mari_proofs.proofs.conflicts.last_of.Given as goal

abbrev pub invariant-loop-zone : goal.invariant-loop-zone
invariant-loop-zone l = last_of l.first l.rest ≡ last_of l.last (drop l.zone-index l.rest)
