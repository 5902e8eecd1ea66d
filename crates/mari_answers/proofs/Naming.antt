-- Every check by which a market file may be refused has a name.
use Rattle.std.proofs.Common.{◌≡◌, ℕ, List, [], Option, Some, arith, subst, sym}
use Rattle.std.specs.Prelude.{◌≢◌, IsSomeAnd}
use Rattle.mari_units.specs.declared.faults.Refusal.{Refusal}
use Rattle.mari_rows.specs.Checks.{row_check_name, row_check_number}
use Rattle.mari_rows.specs.declared.checks.RowCheck.{RowCheck}
use Rattle.mari_rows.specs.declared.checks.RowCheck.TheVariants as row
use Rattle.mari_zones.specs.BorderChecks.{border_check_name}
use Rattle.mari_zones.specs.ZoneChecks.{zone_check_name}
use Rattle.mari_zones.specs.declared.borders.BorderCheck.TheVariants as border
use Rattle.mari_zones.specs.declared.zones.ZoneCheck.TheVariants as zone
use Rattle.mari_bids.specs.BidChecks.{bid_check_name}
use Rattle.mari_bids.specs.declared.bids.BidCheck.TheVariants as bid
use Rattle.mari_links.specs.LinkChecks.{link_check_name}
use Rattle.mari_links.specs.declared.links.LinkCheck.TheVariants as link
use Rattle.mari_demands.specs.DemandChecks.{demand_check_name}
use Rattle.mari_demands.specs.LimitChecks.{limit_check_name}
use Rattle.mari_demands.specs.RunChecks.{run_check_name}
use Rattle.mari_demands.specs.declared.demands.DemandCheck.TheVariants as demand
use Rattle.mari_demands.specs.declared.limits.LimitCheck.TheVariants as limit
use Rattle.mari_demands.specs.declared.runs.RunCheck.TheVariants as run
use Rattle.mari_day.specs.DateChecks.{date_check_name}
use Rattle.mari_day.specs.Files.{IsFileNumber, IsNamed, file_number}
use Rattle.mari_day.specs.Refusals.{IsByCheck, IsCheckNumber, OwnCheck, own_number}
use Rattle.mari_day.specs.Refusals.IsCheckNumber.{OfRows, Own}
use Rattle.mari_day.specs.declared.calendar_page.DateCheck.TheVariants as date
use Rattle.mari_day.specs.declared.files.File.{File}
use Rattle.mari_day.specs.declared.files.File.TheVariants.{Day, Zones, Borders, Bids, Links, Runs, Demands, Limits}
use Rattle.mari_publish.specs.declared.fault.TextFault.{TextFault}
use Rattle.mari_publish.specs.declared.fault.TextFault.TheVariants as text_fault
use Rattle.mari_answers.specs.Checks.{text_check_name}
use Rattle.mari_answers.specs.Refusals.{HasName, check_name}
use Rattle.mari_answers.specs.Reports.{ReportsRefusal, ReportsText}
use Rattle.mari_answers.specs.Texts.{refusal_of, text_refusal}
use Rattle.mari_answers.specs.declared.status.Status.{Status}

-- a check of a file by their numbers has a name, which isn't empty
abbrev pub IsNamedCheck : (file number : ℕ) → Type 0
IsNamedCheck file number = IsSomeAnd (check_name file number) (λ name. name ≢ [])

-- the checks that every file has
pub row-named : (file : ℕ) (check : RowCheck) → IsNamedCheck file (row_check_number check)
unfolding check_name row_check_name
row-named file row.BadHeader = λ e. cc e
row-named file row.BadRow = λ e. cc e
row-named file row.NotUtf8 = λ e. cc e

-- and those of each file of its own
own-named : (file : File) (check : OwnCheck file) → IsNamedCheck (file_number file) (own_number file check)
unfolding check_name date_check_name zone_check_name border_check_name bid_check_name link_check_name run_check_name demand_check_name limit_check_name
own-named Day date.NotOneRecord = λ e. cc e
own-named Day date.BadDate = λ e. cc e
own-named Day date.BadZoneText = λ e. cc e
own-named Day date.OutOfRange = λ e. cc e
own-named Day date.NotWholeQuarters = λ e. cc e
own-named Zones zone.TooManyZones = λ e. cc e
own-named Zones zone.BadField = λ e. cc e
own-named Zones zone.Repeated = λ e. cc e
own-named Zones zone.NoZone = λ e. cc e
own-named Borders border.TooManyBorders = λ e. cc e
own-named Borders border.Unknown = λ e. cc e
own-named Borders border.SelfBorder = λ e. cc e
own-named Borders border.Repeated = λ e. cc e
own-named Borders border.Range = λ e. cc e
own-named Bids bid.BadField = λ e. cc e
own-named Bids bid.Repeated = λ e. cc e
own-named Bids bid.UnknownZone = λ e. cc e
own-named Bids bid.Quarter = λ e. cc e
own-named Bids bid.Range = λ e. cc e
own-named Bids bid.LeastAboveGreatest = λ e. cc e
own-named Bids bid.TooMany = λ e. cc e
own-named Links link.BadKind = λ e. cc e
own-named Links link.UnknownBid = λ e. cc e
own-named Links link.WrongQuarter = λ e. cc e
own-named Links link.ParentNotEarlier = λ e. cc e
own-named Links link.Repeated = λ e. cc e
own-named Links link.BadField = λ e. cc e
own-named Links link.TooManyGates = λ e. cc e
own-named Runs run.BadField = λ e. cc e
own-named Runs run.RunsOutOfOrder = λ e. cc e
own-named Runs run.Quarter = λ e. cc e
own-named Runs run.Range = λ e. cc e
own-named Runs run.TooMany = λ e. cc e
own-named Demands demand.BadField = λ e. cc e
own-named Demands demand.UnknownRun = λ e. cc e
own-named Demands demand.UnknownZone = λ e. cc e
own-named Demands demand.Range = λ e. cc e
own-named Demands demand.TooMany = λ e. cc e
own-named Limits limit.BadField = λ e. cc e
own-named Limits limit.UnknownRun = λ e. cc e
own-named Limits limit.UnknownBorder = λ e. cc e
own-named Limits limit.Repeated = λ e. cc e
own-named Limits limit.Range = λ e. cc e

named : (file : File) (number : ℕ) → IsCheckNumber file number → IsNamedCheck (file_number file) number
named file number (OfRows check e) = rw e (row-named (file_number file) check)
named file number (Own check e) = rw e (own-named file check)

pub by-name : (refusal : Refusal) → IsByCheck refusal → HasName refusal
by-name refusal by =
    let P : ℕ → Type 0 = λ file. IsNamedCheck file refusal.number in
    subst P (sym by.numbered) (named by.file refusal.number by.check)

-- the number of a market file is one of a file that has a name
pub named-file : (file : ℕ) → IsFileNumber file → IsNamed file
named-file file is = (is.from_one, omega (arith, is.to_last))

-- a publication whose text has a fault is refused by its file and a check that has a name
abbrev pub IsSaid : Refusal → Type 0
IsSaid refusal = IsNamed refusal.file × HasName refusal

pub line-named : (n : ℕ) → IsSaid (text_refusal (text_fault.BadLine n))
unfolding check_name text_check_name
line-named n = ((omega arith, omega arith), λ e. cc e)

pub order-named : (n : ℕ) → IsSaid (text_refusal (text_fault.BadOrder n))
unfolding check_name text_check_name
order-named n = ((omega arith, omega arith), λ e. cc e)

pub end-named : (n : ℕ) → IsSaid (text_refusal (text_fault.Truncated n))
unfolding check_name text_check_name
end-named n = ((omega arith, omega arith), λ e. cc e)

pub text-named : (fault : TextFault) (refusal : Refusal) → Some refusal ≡ refusal_of fault → IsSaid refusal
text-named (text_fault.BadLine n) refusal e = let same : refusal ≡ text_refusal (text_fault.BadLine n) = cc in subst IsSaid (sym same) (line-named n)
text-named (text_fault.BadOrder n) refusal e = let same : refusal ≡ text_refusal (text_fault.BadOrder n) = cc in subst IsSaid (sym same) (order-named n)
text-named (text_fault.Truncated n) refusal e = let same : refusal ≡ text_refusal (text_fault.Truncated n) = cc in subst IsSaid (sym same) (end-named n)
text-named text_fault.Memory refusal e = absurd cc

-- the refusal of a fault of a publication's text
pub same-refusal : (fault : TextFault) (refusal : Refusal) (before after : Option (List ℕ)) (result : Status)
    → Some refusal ≡ refusal_of fault → ReportsRefusal refusal before after result
    → ReportsText fault before after result
same-refusal (text_fault.BadLine n) refusal before after result e r = let same : refusal ≡ text_refusal (text_fault.BadLine n) = cc in subst (λ x. ReportsRefusal x before after result) same r
same-refusal (text_fault.BadOrder n) refusal before after result e r = let same : refusal ≡ text_refusal (text_fault.BadOrder n) = cc in subst (λ x. ReportsRefusal x before after result) same r
same-refusal (text_fault.Truncated n) refusal before after result e r = let same : refusal ≡ text_refusal (text_fault.Truncated n) = cc in subst (λ x. ReportsRefusal x before after result) same r
same-refusal text_fault.Memory refusal before after result e r = absurd cc
