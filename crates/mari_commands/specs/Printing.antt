-- The line of the program's usage.
use Rattle.std.specs.Prelude.{ℕ, List}
use lib.Chars.{codes}

-- the line that states how the program is called
unfoldable pub usage_line : List ℕ
usage_line =
    codes
    "usage: mari clear FOLDER [--nodes N] [--workers K] | mari check FOLDER | mari generate NUMBER | mari migrate FOLDER borders | mari migrate FOLDER limits | mari feed FOLDER | mari split FOLDER [--nodes N] [--workers K] | mari blocks FOLDER FIRST LAST [--nodes N] [--workers K] | mari value FOLDER K\n"
