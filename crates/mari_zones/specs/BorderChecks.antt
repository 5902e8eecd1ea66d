-- The checks of borders.csv.
use Rattle.std.specs.Prelude.{ℕ, List, codes}
use Rattle.mari_zones.specs.declared.borders.BorderCheck.{BorderCheck}
use Rattle.mari_zones.specs.declared.borders.BorderCheck.TheVariants.{Range, Repeated, SelfBorder, TooManyBorders, Unknown}

-- their numbers
abbrev pub border_check_number : BorderCheck → ℕ
border_check_number TooManyBorders = 11
border_check_number Unknown = 12
border_check_number SelfBorder = 13
border_check_number Repeated = 14
border_check_number Range = 15

-- and their names
unfoldable pub border_check_name : BorderCheck → List ℕ
border_check_name TooManyBorders = codes "TooManyBorders"
border_check_name Unknown = codes "Unknown"
border_check_name SelfBorder = codes "SelfBorder"
border_check_name Repeated = codes "Repeated"
border_check_name Range = codes "Range"
