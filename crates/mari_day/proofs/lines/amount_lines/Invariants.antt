use Rattle.std.proofs.Common.{◌≡◌, ◌++◌, drop, map}
use Rattle.mari_progress.specs.Money.{amount_line}
use Rattle.mari_day.proofs.lines.amount_lines.Given as goal

-- with the lines of those still to come it is the whole
abbrev pub invariant-loop-place : goal.invariant-loop-place
invariant-loop-place l = l.lines.items ++ map (amount_line l.providers l.amounts) (drop l.place-index l.places) ≡ map (amount_line l.providers l.amounts) l.places
