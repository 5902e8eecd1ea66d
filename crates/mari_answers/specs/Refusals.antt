-- The names of the checks by which a file may be refused.
use Rattle.std.specs.Prelude.{ℕ, ◌==◌, ◌≢◌, List, [], ◌∷◌, Option, Some, None, IsSomeAnd, option_map, if◌then◌else◌}
use Rattle.std.specs.List.{find}
use Rattle.std.specs.Option.{option_or}
use Rattle.mari_units.specs.declared.faults.Refusal.{Refusal}
use Rattle.mari_rows.specs.Checks.{row_check_name, row_check_number}
use Rattle.mari_rows.specs.declared.checks.RowCheck.{RowCheck}
use Rattle.mari_rows.specs.declared.checks.RowCheck.TheVariants as row
use Rattle.mari_zones.specs.ZoneChecks.{zone_check_name, zone_check_number}
use Rattle.mari_zones.specs.BorderChecks.{border_check_name, border_check_number}
use Rattle.mari_zones.specs.declared.zones.ZoneCheck.{ZoneCheck}
use Rattle.mari_zones.specs.declared.zones.ZoneCheck.TheVariants as zone
use Rattle.mari_zones.specs.declared.borders.BorderCheck.{BorderCheck}
use Rattle.mari_zones.specs.declared.borders.BorderCheck.TheVariants as border
use Rattle.mari_bids.specs.BidChecks.{bid_check_name, bid_check_number}
use Rattle.mari_bids.specs.declared.bids.BidCheck.{BidCheck}
use Rattle.mari_bids.specs.declared.bids.BidCheck.TheVariants as bid
use Rattle.mari_links.specs.LinkChecks.{link_check_name, link_check_number}
use Rattle.mari_links.specs.declared.links.LinkCheck.{LinkCheck}
use Rattle.mari_links.specs.declared.links.LinkCheck.TheVariants as link
use Rattle.mari_demands.specs.RunChecks.{run_check_name, run_check_number}
use Rattle.mari_demands.specs.DemandChecks.{demand_check_name, demand_check_number}
use Rattle.mari_demands.specs.LimitChecks.{limit_check_name, limit_check_number}
use Rattle.mari_demands.specs.declared.runs.RunCheck.{RunCheck}
use Rattle.mari_demands.specs.declared.runs.RunCheck.TheVariants as run
use Rattle.mari_demands.specs.declared.demands.DemandCheck.{DemandCheck}
use Rattle.mari_demands.specs.declared.demands.DemandCheck.TheVariants as demand
use Rattle.mari_demands.specs.declared.limits.LimitCheck.{LimitCheck}
use Rattle.mari_demands.specs.declared.limits.LimitCheck.TheVariants as limit
use Rattle.mari_day.specs.Files.{file_with}
use Rattle.mari_day.specs.declared.files.File.{File}
use Rattle.mari_day.specs.declared.files.File.TheVariants as file
use Rattle.mari_day.specs.declared.files.TheConstants.{BLOCKS, PUBLICATION}
use Rattle.mari_day.specs.DateChecks.{date_check_name, date_check_number}
use Rattle.mari_day.specs.declared.calendar_page.DateCheck.{DateCheck}
use Rattle.mari_day.specs.declared.calendar_page.DateCheck.TheVariants as date
use Rattle.mari_blocks.specs.BlockChecks.{block_check_name, block_check_number}
use Rattle.mari_blocks.specs.JointChecks.{joint_check_name, joint_check_number}
use Rattle.mari_blocks.specs.declared.blocks.BlockCheck.{BlockCheck}
use Rattle.mari_blocks.specs.declared.blocks.BlockCheck.TheVariants as block
use Rattle.mari_blocks.specs.declared.checks.JointCheck.{JointCheck}
use Rattle.mari_blocks.specs.declared.checks.JointCheck.TheVariants as joint
use Rattle.mari_answers.specs.Checks.{migration_check_name, migration_check_number, text_check_name, text_check_number}
use Rattle.mari_answers.specs.declared.checks.MigrationCheck.{MigrationCheck}
use Rattle.mari_answers.specs.declared.checks.MigrationCheck.TheVariants as migration
use Rattle.mari_answers.specs.declared.checks.TextCheck.{TextCheck}
use Rattle.mari_answers.specs.declared.checks.TextCheck.TheVariants as text

-- the name of the check of this number, where one of these has it
abbrev pub name_among : {C : Type 0} → (number : C → ℕ) (name : C → List ℕ) → List C → ℕ → Option (List ℕ)
name_among number name checks n = option_map name (find (λ check. number check == n) checks)

-- the checks that every file has
abbrev pub checks_of_rows : List RowCheck
checks_of_rows = row.BadHeader ∷ row.BadRow ∷ row.NotUtf8 ∷ []

-- and the checks of each file of its own; borders.csv may also be refused in a folder that is migrated
abbrev pub checks_of_dates : List DateCheck
checks_of_dates = date.NotOneRecord ∷ date.BadDate ∷ date.BadZoneText ∷ date.OutOfRange ∷ date.NotWholeQuarters ∷ []

abbrev pub checks_of_zones : List ZoneCheck
checks_of_zones = zone.TooManyZones ∷ zone.BadField ∷ zone.Repeated ∷ zone.NoZone ∷ []

abbrev pub checks_of_borders : List BorderCheck
checks_of_borders = border.TooManyBorders ∷ border.Unknown ∷ border.SelfBorder ∷ border.Repeated ∷ border.Range ∷ []

abbrev pub checks_of_migrations : List MigrationCheck
checks_of_migrations = migration.AlreadyTwo ∷ []

abbrev pub checks_of_bids : List BidCheck
checks_of_bids = bid.BadField ∷ bid.Repeated ∷ bid.UnknownZone ∷ bid.Quarter ∷ bid.Range ∷ bid.LeastAboveGreatest ∷ bid.TooMany ∷ []

abbrev pub checks_of_links : List LinkCheck
checks_of_links = link.BadKind ∷ link.UnknownBid ∷ link.WrongQuarter ∷ link.ParentNotEarlier ∷ link.Repeated ∷ link.BadField ∷ link.TooManyGates ∷ []

abbrev pub checks_of_runs : List RunCheck
checks_of_runs = run.BadField ∷ run.RunsOutOfOrder ∷ run.Quarter ∷ run.Range ∷ run.TooMany ∷ []

abbrev pub checks_of_demands : List DemandCheck
checks_of_demands = demand.BadField ∷ demand.UnknownRun ∷ demand.UnknownZone ∷ demand.Range ∷ demand.TooMany ∷ []

abbrev pub checks_of_texts : List TextCheck
checks_of_texts = text.BadLine ∷ text.BadOrder ∷ text.Truncated ∷ []

abbrev pub checks_of_limits : List LimitCheck
checks_of_limits = limit.BadField ∷ limit.UnknownRun ∷ limit.UnknownBorder ∷ limit.Repeated ∷ limit.Range ∷ []

abbrev pub checks_of_blocks : List BlockCheck
checks_of_blocks = block.BadField ∷ block.UnknownBid ∷ block.Quarter ∷ block.Repeated ∷ block.Linked ∷ []

-- the name of a check of borders.csv, by its number
abbrev pub border_name : ℕ → Option (List ℕ)
border_name number = option_or (name_among border_check_number border_check_name checks_of_borders number)
    (name_among migration_check_number migration_check_name checks_of_migrations number)

-- the name of a check of a file, or of this one of what can't be one market, which is reported of the file
abbrev pub name_or_joint : Option (List ℕ) → JointCheck → ℕ → Option (List ℕ)
name_or_joint own check number = option_or own (name_among joint_check_number joint_check_name (check ∷ []) number)

-- the name of a check of a market file's own
abbrev pub named_of : Option File → (number : ℕ) → Option (List ℕ)
named_of (Some file.Day) number = name_among date_check_number date_check_name checks_of_dates number
named_of (Some file.Zones) number = name_among zone_check_number zone_check_name checks_of_zones number
named_of (Some file.Borders) number = border_name number
named_of (Some file.Bids) number = name_among bid_check_number bid_check_name checks_of_bids number
named_of (Some file.Links) number = name_or_joint (name_among link_check_number link_check_name checks_of_links number) joint.AcrossQuarters number
named_of (Some file.Runs) number = name_or_joint (name_among run_check_number run_check_name checks_of_runs number) joint.NoScheduled number
named_of (Some file.Demands) number = name_among demand_check_number demand_check_name checks_of_demands number
named_of (Some file.Limits) number = name_among limit_check_number limit_check_name checks_of_limits number
named_of None number = None

-- the name of a check of one file of its own, by the file's number from 1
abbrev pub own_name : (file number : ℕ) → Option (List ℕ)
own_name file number =
    if file == PUBLICATION then name_among text_check_number text_check_name checks_of_texts number else
    if file == BLOCKS then name_or_joint (name_among block_check_number block_check_name checks_of_blocks number) joint.TooLarge number else
    named_of (file_with file) number

-- the name of a check, by its file's number from 1 and its own
unfoldable pub check_name : (file number : ℕ) → Option (List ℕ)
check_name file number = option_or (name_among row_check_number row_check_name checks_of_rows number) (own_name file number)

-- the check by which a file is refused has a name, which isn't empty
abbrev pub HasName : Refusal → Type 0
HasName refusal = IsSomeAnd (check_name refusal.file refusal.number) (λ name. name ≢ [])
