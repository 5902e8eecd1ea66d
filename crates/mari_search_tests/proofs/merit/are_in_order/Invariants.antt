use Rattle.std.proofs.Common.{ℕ, ◌≤◌, take}
use Rattle.std.specs.List.{AllZip}
use Rattle.mari_search_tests.proofs.merit.are_in_order.Given as goal

abbrev pub invariant-loop-i : goal.invariant-loop-i
invariant-loop-i l = AllZip (λ (lo hi : ℕ). lo ≤ hi) (take l.i l.least) (take l.i l.greatest)
