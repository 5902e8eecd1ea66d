-- The lines that state what limits are worth.
use Rattle.std.specs.Prelude.{ℕ, ◌≤◌, ◌^◌, List, [], ◌∷◌, ◌++◌, unsigned_abs}
use lib.Chars.{codes}
use Rattle.std.specs.Fmt.{decimal}
use Rattle.mari_lines.specs.declared.line.BorderLine.{BorderLine}
use Rattle.mari_lines.specs.Spelling.{line_text, money_text}
use Rattle.mari_lines.specs.declared.line.Line.TheVariants as line
use Rattle.mari_publish.specs.declared.publication.FullBlock.{FullBlock}
use Rattle.mari_capacity.specs.declared.worth.BorderWorth.{BorderWorth}
use Rattle.mari_capacity.specs.declared.worth.Worth.{Worth}

-- the first line: the form's number, and by how many MW limits are raised
abbrev pub opening_line : (more : ℕ) → List ℕ
opening_line more = codes "value 1 " ++ decimal more ++ 10 ∷ []

-- a gain and a rise, as money, each after a space
abbrev pub worth_fields : Worth → List ℕ
worth_fields w = 32 ∷ money_text w.gain ++ 32 ∷ money_text w.rise

-- a border's names, and what its limits are worth, forth and then back
abbrev pub border_line : BorderLine → BorderWorth → List ℕ
border_line l w = codes "border " ++ l.from ++ 32 ∷ l.to ++ worth_fields w.forth ++ worth_fields w.back ++ 10 ∷ []

-- a line for each border
unfoldable pub border_lines : List BorderLine → List BorderWorth → List ℕ
border_lines [] ws = []
border_lines (l ∷ ls) [] = []
border_lines (l ∷ ls) (w ∷ ws) = border_line l w ++ border_lines ls ws

-- the lines of a published run: its number, and its borders
abbrev pub run_lines : FullBlock → List BorderWorth → List ℕ
run_lines b ws = codes "run " ++ decimal b.heading.run ++ 10 ∷ border_lines b.borders ws

-- the line of a run that isn't published
abbrev pub unpublished_line : (run : ℕ) → List ℕ
unpublished_line run = codes "run " ++ decimal run ++ codes " unpublished" ++ 10 ∷ []

-- the last line, as a day's text has it: how many runs are published, and how many aren't
abbrev pub closing_line : (published unpublished : ℕ) → List ℕ
closing_line published unpublished = line_text (line.Done published unpublished)

-- amounts that can be printed
pub record IsPrintable (w : Worth) : Type 0 where
  pub gain : unsigned_abs w.gain.0 ≤ 10 ^ 30
  pub rise : unsigned_abs w.rise.0 ≤ 10 ^ 30

pub record ArePrintable (w : BorderWorth) : Type 0 where
  pub forth : IsPrintable w.forth
  pub back : IsPrintable w.back
