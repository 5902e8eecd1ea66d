-- Every refusal that an outcome states has a name.
use Rattle.std.proofs.Common.{ℕ, Result, Ok, Err, arith, inl, inr}
use Rattle.mari_units.specs.declared.faults.Refusal.{Refusal}
use Rattle.mari_publish.specs.declared.fault.TextFault.{TextFault}
use Rattle.mari_publish.specs.declared.fault.TextFault.TheVariants as text_fault
use Rattle.mari_remain.specs.declared.books.Books.{Books}
use Rattle.mari_day.specs.Files.{IsNamed}
use Rattle.mari_day.specs.declared.files.TheConstants.{BLOCKS}
use Rattle.mari_blocks.specs.BlockChecks.{block_check_name, block_check_number}
use Rattle.mari_blocks.specs.JointChecks.{joint_check_name, refusal_by}
use Rattle.mari_blocks.specs.declared.blocks.BlockCheck.{BlockCheck}
use Rattle.mari_blocks.specs.declared.blocks.BlockCheck.TheVariants as block
use Rattle.mari_blocks.specs.declared.checks.JointCheck.{JointCheck}
use Rattle.mari_blocks.specs.declared.checks.JointCheck.TheVariants as joint
use Rattle.mari_blocks.specs.declared.clearing.JointText.{JointText}
use Rattle.mari_quarters.specs.Quarters.{IsQuartersCheck, IsQuartersFile, NamesQuartersFile, RefusesQuartersByCheck}
use Rattle.mari_quarters.specs.Quarters.IsQuartersCheck.{OfFiles, OfRows as OfBlockRows, OfBlocks, OfMarket}
use Rattle.mari_day.specs.Reading.{NamesAFile}
use Rattle.mari_day.specs.Refusals.{RefusesByCheck}
use Rattle.mari_day.specs.declared.reading.BooksFault.{BooksFault}
use Rattle.mari_day.specs.declared.reading.BooksFault.TheVariants as why
use Rattle.mari_words.specs.declared.command.FilePart.{FilePart}
use Rattle.mari_answers.specs.Checks.{migration_check_name}
use Rattle.mari_commands.specs.Commands.{already_two}
use Rattle.mari_commands.specs.Outcome.{IsMigrated, IsReportable, IsSayable, no_books, text_outcome}
use Rattle.mari_answers.specs.Refusals.{HasName, check_name}
use Rattle.mari_commands.specs.declared.outcome.Outcome.{Outcome}
use Rattle.mari_commands.specs.declared.outcome.Outcome.TheVariants as outcome
use Rattle.mari_answers.proofs.Naming.{IsNamedCheck, by-name, end-named, line-named, named-file, order-named, row-named}

-- and those of blocks.csv, and of what can't be one market
block-named : (check : BlockCheck) → IsNamedCheck BLOCKS (block_check_number check)
unfolding check_name block_check_name
block-named block.BadField = λ e. cc e
block-named block.UnknownBid = λ e. cc e
block-named block.Quarter = λ e. cc e
block-named block.Repeated = λ e. cc e
block-named block.Linked = λ e. cc e

joint-named : (check : JointCheck) → HasName (refusal_by check)
unfolding check_name joint_check_name
joint-named joint.NoScheduled = λ e. cc e
joint-named joint.AcrossQuarters = λ e. cc e
joint-named joint.TooLarge = λ e. cc e

-- a folder that has no books
pub fault-reportable : (fault : BooksFault) → NamesAFile {T = Books} (Err fault) → RefusesByCheck {T = Books} (Err fault) → IsReportable (no_books fault)
fault-reportable (why.Fetch file f) names by = named-file file names
fault-reportable (why.Refused refusal) names by = (named-file refusal.file names, by-name refusal by)
fault-reportable why.Memory names by = tt

-- a publication whose text has a fault
pub text-reportable : (fault : TextFault) → IsReportable (text_outcome fault)
text-reportable (text_fault.BadLine n) = line-named n
text-reportable (text_fault.BadOrder n) = order-named n
text-reportable (text_fault.Truncated n) = end-named n
text-reportable text_fault.Memory = tt

-- a folder that is migrated though it has limits.csv already
already-reportable : IsReportable (outcome.Refused already_two)
unfolding check_name migration_check_name
already-reportable = ((omega arith, omega arith), λ e. cc e)

pub migrated-reportable : (books : Books) (part : FilePart) (o : Outcome) → IsMigrated books part o → IsReportable o
migrated-reportable books part outcome.NoCommand is = tt
migrated-reportable books part (outcome.Text text) is = tt
migrated-reportable books part (outcome.Invalid run fault) is = tt
migrated-reportable books part (outcome.Refused refusal) is = rw is.1 already-reportable
migrated-reportable books part outcome.Memory is = tt
migrated-reportable books part _ is = absurd is

-- what clearing quarters gives
file-named : (file : ℕ) → IsQuartersFile file → IsNamed file
file-named file (inl is) = named-file file is
file-named file (inr is) = rw is (omega arith, omega arith)

quarters-named : (refusal : Refusal) → IsQuartersCheck refusal → HasName refusal
quarters-named refusal (OfFiles by) = by-name refusal by
quarters-named refusal (OfBlockRows is check e) = rw (is, e) (row-named BLOCKS check)
quarters-named refusal (OfBlocks is check e) = rw (is, e) (block-named check)
quarters-named refusal (OfMarket check e) = rw e (joint-named check)

pub quarters-sayable : (given : Result JointText BooksFault) → NamesQuartersFile given → RefusesQuartersByCheck given → IsSayable given
quarters-sayable (Ok printed) names by = tt
quarters-sayable (Err (why.Fetch file fault)) names by = file-named file names
quarters-sayable (Err (why.Refused refusal)) names by = (file-named refusal.file names, quarters-named refusal by)
quarters-sayable (Err why.Memory) names by = tt
