use Rattle.std.proofs.Common.{◌≡◌, ◌++◌, drop, filter}
use Rattle.mari_remain.specs.Choice.{rivals_in}
use Rattle.mari_remain.proofs.choice.rivals_of.Given as goal

-- with those still to come it is the whole
abbrev pub invariant-loop-number : goal.invariant-loop-number
invariant-loop-number l = l.rivals.items ++ filter (rivals_in l.books l.remaining) (drop l.number-index l.numbers) ≡ filter (rivals_in l.books l.remaining) l.numbers
