-- The checks of bids.csv.
use Rattle.std.specs.Prelude.{ℕ, List, codes}
use Rattle.mari_bids.specs.declared.bids.BidCheck.{BidCheck}
use Rattle.mari_bids.specs.declared.bids.BidCheck.TheVariants.{BadField, LeastAboveGreatest, Quarter, Range, Repeated, TooMany, UnknownZone}

-- their numbers
abbrev pub bid_check_number : BidCheck → ℕ
bid_check_number BadField = 11
bid_check_number Repeated = 12
bid_check_number UnknownZone = 13
bid_check_number Quarter = 14
bid_check_number Range = 15
bid_check_number LeastAboveGreatest = 16
bid_check_number TooMany = 17

-- and their names
unfoldable pub bid_check_name : BidCheck → List ℕ
bid_check_name BadField = codes "BadField"
bid_check_name Repeated = codes "Repeated"
bid_check_name UnknownZone = codes "UnknownZone"
bid_check_name Quarter = codes "Quarter"
bid_check_name Range = codes "Range"
bid_check_name LeastAboveGreatest = codes "LeastAboveGreatest"
bid_check_name TooMany = codes "TooMany"
