-- The keys of a value state the kind of the part.
use Rattle.std.proofs.Common.{◌≡◌, ℕ, Bool, true, false, List, codes, sym, ap, ◌∙◌, arith}
use Rattle.std.specs.Prelude.{is_some}
use Rattle.serde_json.specs.Data.{Data}
use Rattle.serde_json.specs.Find.{get}
use Rattle.mari_lines.specs.Ranges.{InRange}
use Rattle.mari_lines.specs.declared.line.AmountLine.{AmountLine}
use Rattle.mari_lines.specs.declared.line.Heading.{Heading}
use Rattle.mari_lines.specs.declared.line.Line.TheVariants as line
use Rattle.mari_lines.specs.declared.line.MoneyLine.{MoneyLine}
use Rattle.mari_publish.specs.Ranges.{BlockFits}
use Rattle.mari_publish.specs.declared.publication.Block.{Block}
use Rattle.mari_publish.specs.declared.publication.Block.TheVariants as block
use Rattle.mari_publish.specs.declared.publication.Part.{Part}
use Rattle.mari_publish.specs.declared.publication.Part.TheVariants as part
use Rattle.mari_publish.specs.Ranges.{PartFits, SumsFit}
use Rattle.mari_feed.specs.Values.{block_value, head_value, part_value, totals_value, unpublished_value}

-- whether a value has a key
abbrev has : List ℕ → Data → Bool
has key d = is_some (get key d)

never : true ≡ false → ⊥
never e = cc

-- a block that has a count of nodes
pub unpublished_part : (b : Block) (d : Data) → BlockFits b → block_value b ≡ d → true ≡ has (codes "nodes") d
    → (x : Heading × ℕ) × InRange (line.Unpublished x.0 x.1) × (unpublished_value x.0 x.1 ≡ d)
unpublished_part (block.Published g) d r e there = absurd (never (there ∙ sym (ap (has (codes "nodes")) e)))
unpublished_part (block.Unpublished heading nodes) d r e there = ((heading, nodes), r, e)

-- a part that has a budget
pub head_part : (p : Part) (d : Data) → PartFits p → part_value p ≡ d → true ≡ has (codes "budget") d → (x : List ℕ × ℕ × ℕ) × InRange (line.Head x.0 x.1 x.2) × (head_value x.0 x.1 x.2 ≡ d)
head_part (part.Head date quarters budget) d r e there = ((date, quarters, budget), r, e)
head_part p d r e there = grind arith

-- a part that has neither a budget nor a run
pub totals_part : (p : Part) (d : Data) → PartFits p → part_value p ≡ d → false ≡ has (codes "budget") d → false ≡ has (codes "run") d
    → (x : List MoneyLine × List AmountLine) × SumsFit x.0 x.1 × (totals_value x.0 x.1 ≡ d)
totals_part (part.Totals operators providers) d r e unbudgeted none = ((operators, providers), r, e)
totals_part p d r e unbudgeted none = grind arith
