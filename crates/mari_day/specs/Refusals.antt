-- The checks by which a market file may be refused.
use Rattle.std.specs.Prelude.{◌≡◌, ℕ, Result, Ok, Err, ⊤}
use Rattle.mari_units.specs.declared.faults.Refusal.{Refusal}
use Rattle.mari_rows.specs.Checks.{row_check_number}
use Rattle.mari_rows.specs.declared.checks.RowCheck.{RowCheck}
use Rattle.mari_zones.specs.BorderChecks.{border_check_number}
use Rattle.mari_zones.specs.ZoneChecks.{zone_check_number}
use Rattle.mari_zones.specs.declared.borders.BorderCheck.{BorderCheck}
use Rattle.mari_zones.specs.declared.zones.ZoneCheck.{ZoneCheck}
use Rattle.mari_bids.specs.BidChecks.{bid_check_number}
use Rattle.mari_bids.specs.declared.bids.BidCheck.{BidCheck}
use Rattle.mari_links.specs.LinkChecks.{link_check_number}
use Rattle.mari_links.specs.declared.links.LinkCheck.{LinkCheck}
use Rattle.mari_demands.specs.DemandChecks.{demand_check_number}
use Rattle.mari_demands.specs.LimitChecks.{limit_check_number}
use Rattle.mari_demands.specs.RunChecks.{run_check_number}
use Rattle.mari_demands.specs.declared.demands.DemandCheck.{DemandCheck}
use Rattle.mari_demands.specs.declared.limits.LimitCheck.{LimitCheck}
use Rattle.mari_demands.specs.declared.runs.RunCheck.{RunCheck}
use Rattle.mari_day.specs.DateChecks.{date_check_number}
use Rattle.mari_day.specs.Files.{file_number}
use Rattle.mari_day.specs.declared.calendar_page.DateCheck.{DateCheck}
use Rattle.mari_day.specs.declared.files.File.{File}
use Rattle.mari_day.specs.declared.files.File.TheVariants.{Day, Zones, Borders, Bids, Links, Runs, Demands, Limits}
use Rattle.mari_day.specs.declared.reading.BooksFault.{BooksFault}
use Rattle.mari_day.specs.declared.reading.BooksFault.TheVariants as why

-- a file's own checks
abbrev pub OwnCheck : File → Type 0
OwnCheck Day = DateCheck
OwnCheck Zones = ZoneCheck
OwnCheck Borders = BorderCheck
OwnCheck Bids = BidCheck
OwnCheck Links = LinkCheck
OwnCheck Runs = RunCheck
OwnCheck Demands = DemandCheck
OwnCheck Limits = LimitCheck

-- and their numbers
abbrev pub own_number : (file : File) → OwnCheck file → ℕ
own_number Day = date_check_number
own_number Zones = zone_check_number
own_number Borders = border_check_number
own_number Bids = bid_check_number
own_number Links = link_check_number
own_number Runs = run_check_number
own_number Demands = demand_check_number
own_number Limits = limit_check_number

-- the number of a check that every file has, or of one of this file's own
pub data IsCheckNumber (file : File) (number : ℕ) : Type 0 where
  OfRows : (check : RowCheck) → number ≡ row_check_number check → IsCheckNumber file number
  Own : (check : OwnCheck file) → number ≡ own_number file check → IsCheckNumber file number

-- a market file is refused by a check of its own, or by one that every file has
pub record IsByCheck (refusal : Refusal) : Type 0 where
  pub file : File
  pub numbered : refusal.file ≡ file_number file
  pub check : IsCheckNumber file refusal.number

-- where the files are refused, it is by such a check
abbrev pub RefusesByCheck : {T : Type 0} → Result T BooksFault → Type 0
RefusesByCheck (Ok x) = ⊤
RefusesByCheck (Err (why.Fetch number f)) = ⊤
RefusesByCheck (Err (why.Refused refusal)) = IsByCheck refusal
RefusesByCheck (Err why.Memory) = ⊤
