-- The columns of day.csv, whose record states a date and the rule of its clock.
use Rattle.std.specs.Prelude.{ℕ, List, codes}

unfoldable pub day_columns : List ℕ
day_columns = codes "date,rule"
