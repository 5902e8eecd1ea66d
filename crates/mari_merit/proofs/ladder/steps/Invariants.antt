use Rattle.std.proofs.Common.{◌≡◌}
use Rattle.mari_merit.specs.Ladder.{steps_among}
use Rattle.mari_merit.proofs.ladder.steps.Given as goal

-- the steps of the orders so far
abbrev pub invariant-loop-number : goal.invariant-loop-number
invariant-loop-number l = record { so_far : l.steps.items ≡ steps_among l.market l.bounds l.zone l.side l.number }
