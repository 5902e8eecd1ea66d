-- The checks of the program's own: of a publication's text, and of a folder that is migrated.
use Rattle.std.specs.Prelude.{ℕ, List, codes}
use Rattle.mari_answers.specs.declared.checks.MigrationCheck.{MigrationCheck}
use Rattle.mari_answers.specs.declared.checks.MigrationCheck.TheVariants.{AlreadyTwo}
use Rattle.mari_answers.specs.declared.checks.TextCheck.{TextCheck}
use Rattle.mari_answers.specs.declared.checks.TextCheck.TheVariants.{BadLine, BadOrder, Truncated}

-- their numbers
abbrev pub text_check_number : TextCheck → ℕ
text_check_number BadLine = 11
text_check_number BadOrder = 12
text_check_number Truncated = 13

abbrev pub migration_check_number : MigrationCheck → ℕ
migration_check_number AlreadyTwo = 17

-- and their names
unfoldable pub text_check_name : TextCheck → List ℕ
text_check_name BadLine = codes "BadLine"
text_check_name BadOrder = codes "BadOrder"
text_check_name Truncated = codes "Truncated"

unfoldable pub migration_check_name : MigrationCheck → List ℕ
migration_check_name AlreadyTwo = codes "AlreadyTwo"
