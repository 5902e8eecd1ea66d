use Rattle.std.proofs.Common.{◌≡◌, ◌-◌, false}
use Rattle.std.specs.Prelude.{is_some, not}
use Rattle.std.specs.List.{list_any, range_with_len}
use Rattle.mari_blocks.specs.Joint.{scheduled_run_of}
use Rattle.mari_blocks.proofs.runs.lacks_run.Given as goal

-- the quarters before this one have scheduled runs
abbrev pub invariant-loop-quarter : goal.invariant-loop-quarter
invariant-loop-quarter l = list_any (λ quarter. not (is_some (scheduled_run_of l.books.runs.runs quarter))) (range_with_len l.first (l.quarter - l.first)) ≡ false
