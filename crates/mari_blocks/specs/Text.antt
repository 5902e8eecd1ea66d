-- The text of the blocks command: what is printed of a joint market.
use Rattle.std.specs.Prelude.{◌≤◌, ℕ, List, [], ◌∷◌, ◌++◌, length}
use lib.Chars.{codes}
use Rattle.std.specs.Fmt.{decimal}
use Rattle.std.specs.List.{All, flat_map}
use Rattle.mari_units.specs.declared.limits.TheConstants.{MOST_DEMANDS, MOST_NODES}
use Rattle.mari_market.specs.declared.certificate.TreeItem.{TreeItem}
use Rattle.mari_lines.specs.Ranges.{IsMoney}
use Rattle.mari_lines.specs.Spelling.{line_text}
use Rattle.mari_lines.specs.declared.line.BorderLine.{BorderLine}
use Rattle.mari_lines.specs.declared.line.Line.TheVariants as line
use Rattle.mari_publish.specs.Lines.{market_lines_by, tree_lines}
use Rattle.mari_publish.specs.Texts.{text_of_lines}
use Rattle.mari_blocks.specs.declared.text.JointBlock.{JointBlock}
use Rattle.mari_blocks.specs.declared.text.QuarterBlock.{QuarterBlock}

-- a quarter: its number, and the lines of its zones, borders, bids and demands
abbrev pub quarter_text : QuarterBlock → List ℕ
quarter_text q = codes "quarter " ++ decimal q.quarter ++ 10 ∷ text_of_lines (market_lines_by q.zones q.borders q.bids q.demands)

-- the first word, and the first and the last quarter
abbrev pub opening_text : (first last : ℕ) → List ℕ
opening_text first last = codes "blocks " ++ decimal first ++ 32 ∷ decimal last

-- the first two lines of a joint market that is published: its quarters, and its welfare
abbrev pub heading_text : JointBlock → List ℕ
heading_text b = opening_text b.first b.last ++ codes " published\n" ++ line_text (line.Welfare b.welfare)

-- its last lines: its certificate tree, and the end
abbrev pub ending_text : List TreeItem → List ℕ
ending_text tree = text_of_lines (tree_lines tree) ++ codes "end\n"

-- its text: between them its quarters
abbrev pub joint_text_of : JointBlock → List ℕ
joint_text_of b = heading_text b ++ flat_map quarter_text b.quarters ++ ending_text b.tree

-- that it isn't published, with the count of nodes of its search
abbrev pub count_text : (count : ℕ) → List ℕ
count_text count = codes " unpublished " ++ decimal count ++ 10 ∷ []

-- the text of one that isn't
abbrev pub unpublished_text_of : (first last count : ℕ) → List ℕ
unpublished_text_of first last count = opening_text first last ++ count_text count

-- a quarter's rents are amounts of money, and its demands no more than a run has
pub record QuarterFits (q : QuarterBlock) : Type 0 where
  pub rents : All (λ (b : BorderLine). IsMoney b.rent) q.borders
  pub demands : length q.demands ≤ MOST_DEMANDS

-- so it is of each quarter, and the tree has no more items than a search nodes
pub record JointFits (b : JointBlock) : Type 0 where
  pub quarters : All QuarterFits b.quarters
  pub tree : length b.tree ≤ MOST_NODES
