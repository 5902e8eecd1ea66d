-- The checks of runs.csv.
use Rattle.std.specs.Prelude.{ℕ, List, codes}
use Rattle.mari_demands.specs.declared.runs.RunCheck.{RunCheck}
use Rattle.mari_demands.specs.declared.runs.RunCheck.TheVariants.{BadField, Quarter, Range, RunsOutOfOrder, TooMany}

-- their numbers
abbrev pub run_check_number : RunCheck → ℕ
run_check_number BadField = 11
run_check_number RunsOutOfOrder = 12
run_check_number Quarter = 13
run_check_number Range = 14
run_check_number TooMany = 15

-- and their names
unfoldable pub run_check_name : RunCheck → List ℕ
run_check_name BadField = codes "BadField"
run_check_name RunsOutOfOrder = codes "RunsOutOfOrder"
run_check_name Quarter = codes "Quarter"
run_check_name Range = codes "Range"
run_check_name TooMany = codes "TooMany"
