-- The checks of a joint market.
use Rattle.std.specs.Prelude.{ℕ, List, codes}
use Rattle.mari_units.specs.declared.faults.Refusal.{Refusal}
use Rattle.mari_blocks.specs.declared.checks.JointCheck.{JointCheck}
use Rattle.mari_blocks.specs.declared.checks.JointCheck.TheVariants.{AcrossQuarters, NoScheduled, TooLarge}

-- their numbers
abbrev pub joint_check_number : JointCheck → ℕ
joint_check_number NoScheduled = 16
joint_check_number AcrossQuarters = 18
joint_check_number TooLarge = 17

-- and their names
unfoldable pub joint_check_name : JointCheck → List ℕ
joint_check_name NoScheduled = codes "NoScheduled"
joint_check_name AcrossQuarters = codes "AcrossQuarters"
joint_check_name TooLarge = codes "TooLarge"

-- the number of the file of which each is reported: runs.csv, links.csv, blocks.csv
abbrev pub file_of : JointCheck → ℕ
file_of NoScheduled = 6
file_of AcrossQuarters = 5
file_of TooLarge = 10

-- the refusal by one of them, which concerns the whole file
abbrev pub refusal_by : JointCheck → Refusal
refusal_by check = record { file = file_of check; line = 1; number = joint_check_number check }
