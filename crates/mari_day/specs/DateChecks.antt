-- The checks of day.csv.
use Rattle.std.specs.Prelude.{ℕ, List, codes}
use Rattle.mari_day.specs.declared.calendar_page.DateCheck.{DateCheck}
use Rattle.mari_day.specs.declared.calendar_page.DateCheck.TheVariants.{BadDate, BadZoneText, NotOneRecord, NotWholeQuarters, OutOfRange}

-- their numbers
abbrev pub date_check_number : DateCheck → ℕ
date_check_number NotOneRecord = 15
date_check_number BadDate = 11
date_check_number BadZoneText = 12
date_check_number OutOfRange = 14
date_check_number NotWholeQuarters = 13

-- and their names
unfoldable pub date_check_name : DateCheck → List ℕ
date_check_name NotOneRecord = codes "NotOneRecord"
date_check_name BadDate = codes "BadDate"
date_check_name BadZoneText = codes "BadZoneText"
date_check_name OutOfRange = codes "OutOfRange"
date_check_name NotWholeQuarters = codes "NotWholeQuarters"
