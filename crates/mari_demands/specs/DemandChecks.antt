-- The checks of demands.csv.
use Rattle.std.specs.Prelude.{ℕ, List, codes}
use Rattle.mari_demands.specs.declared.demands.DemandCheck.{DemandCheck}
use Rattle.mari_demands.specs.declared.demands.DemandCheck.TheVariants.{BadField, Range, TooMany, UnknownRun, UnknownZone}

-- their numbers
abbrev pub demand_check_number : DemandCheck → ℕ
demand_check_number BadField = 11
demand_check_number UnknownRun = 12
demand_check_number UnknownZone = 13
demand_check_number Range = 14
demand_check_number TooMany = 15

-- and their names
unfoldable pub demand_check_name : DemandCheck → List ℕ
demand_check_name BadField = codes "BadField"
demand_check_name UnknownRun = codes "UnknownRun"
demand_check_name UnknownZone = codes "UnknownZone"
demand_check_name Range = codes "Range"
demand_check_name TooMany = codes "TooMany"
