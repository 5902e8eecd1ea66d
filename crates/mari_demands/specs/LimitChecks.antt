-- The checks of limits.csv.
use Rattle.std.specs.Prelude.{ℕ, List, codes}
use Rattle.mari_demands.specs.declared.limits.LimitCheck.{LimitCheck}
use Rattle.mari_demands.specs.declared.limits.LimitCheck.TheVariants.{BadField, Range, Repeated, UnknownBorder, UnknownRun}

-- their numbers
abbrev pub limit_check_number : LimitCheck → ℕ
limit_check_number BadField = 11
limit_check_number UnknownRun = 12
limit_check_number UnknownBorder = 13
limit_check_number Repeated = 14
limit_check_number Range = 15

-- and their names
unfoldable pub limit_check_name : LimitCheck → List ℕ
limit_check_name BadField = codes "BadField"
limit_check_name UnknownRun = codes "UnknownRun"
limit_check_name UnknownBorder = codes "UnknownBorder"
limit_check_name Repeated = codes "Repeated"
limit_check_name Range = codes "Range"
