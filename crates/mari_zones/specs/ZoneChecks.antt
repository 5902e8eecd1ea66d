-- The checks of zones.csv.
use Rattle.std.specs.Prelude.{ℕ, List, codes}
use Rattle.mari_zones.specs.declared.zones.ZoneCheck.{ZoneCheck}
use Rattle.mari_zones.specs.declared.zones.ZoneCheck.TheVariants.{BadField, NoZone, Repeated, TooManyZones}

-- their numbers
abbrev pub zone_check_number : ZoneCheck → ℕ
zone_check_number TooManyZones = 11
zone_check_number BadField = 12
zone_check_number Repeated = 13
zone_check_number NoZone = 14

-- and their names
unfoldable pub zone_check_name : ZoneCheck → List ℕ
zone_check_name TooManyZones = codes "TooManyZones"
zone_check_name BadField = codes "BadField"
zone_check_name Repeated = codes "Repeated"
zone_check_name NoZone = codes "NoZone"
