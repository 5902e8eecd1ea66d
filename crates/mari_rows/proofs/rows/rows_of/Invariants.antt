use Rattle.std.proofs.Common.{◌≡◌, ◌++◌, length}
use Rattle.mari_rows.proofs.rows.rows_of.Given as goal

-- the rows so far, and those that are left
abbrev pub invariant-rows : goal.invariant-rows
invariant-rows l = l.rows.items ++ l.left ≡ l.initial.left

abbrev pub decreases-rows : goal.decreases-rows
decreases-rows l = length l.left
