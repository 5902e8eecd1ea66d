-- The checks of links.csv.
use Rattle.std.specs.Prelude.{ℕ, List, codes}
use Rattle.mari_links.specs.declared.links.LinkCheck.{LinkCheck}
use Rattle.mari_links.specs.declared.links.LinkCheck.TheVariants.{BadField, BadKind, ParentNotEarlier, Repeated, TooManyGates, UnknownBid, WrongQuarter}

-- their numbers
abbrev pub link_check_number : LinkCheck → ℕ
link_check_number BadKind = 11
link_check_number UnknownBid = 12
link_check_number WrongQuarter = 13
link_check_number ParentNotEarlier = 14
link_check_number Repeated = 15
link_check_number BadField = 16
link_check_number TooManyGates = 17

-- and their names
unfoldable pub link_check_name : LinkCheck → List ℕ
link_check_name BadKind = codes "BadKind"
link_check_name UnknownBid = codes "UnknownBid"
link_check_name WrongQuarter = codes "WrongQuarter"
link_check_name ParentNotEarlier = codes "ParentNotEarlier"
link_check_name Repeated = codes "Repeated"
link_check_name BadField = codes "BadField"
link_check_name TooManyGates = codes "TooManyGates"
