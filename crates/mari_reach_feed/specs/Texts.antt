-- Which parts have a line, and what the text of a line is.
use Rattle.std.specs.Prelude.{ℕ, List, [], ◌∷◌, ◌++◌, codes}
use Rattle.mari_lines.specs.Reading.{Lacks}
use Rattle.mari_publish.specs.Ranges.{SumsFit}
use Rattle.mari_reach_lines.specs.Ranges.{ReachInRange}
use Rattle.mari_reach_lines.specs.declared.line.ReachLine.TheVariants as reach
use Rattle.mari_reach_text.specs.Texts.{NamedFits, named_line}
use Rattle.mari_reach_text.specs.declared.kept.ReachPart.{ReachPart}
use Rattle.mari_reach_text.specs.declared.kept.ReachPart.TheVariants as parts
use Rattle.mari_reach_text.specs.declared.named.NamedBlock.{NamedBlock}
use Rattle.mari_reach_text.specs.declared.named.NamedItem.{NamedItem}
use Rattle.mari_feed.specs.Texts.{IsJsonOf, first_text, nexts_text}
use Rattle.mari_feed.specs.Values.{bid_value, border_value, kind_value, list_of, natural, zone_value}
use Rattle.mari_reach_feed.specs.Values.{gap_value, named_value, reach_part_value}

-- the numbers of an item are in range
abbrev pub NamedItemFits : NamedItem → Type 0
NamedItemFits item = ReachInRange (named_line item)

-- those of a part are, and no kind of line comes too often
abbrev pub ReachPartFits : ReachPart → Type 0
ReachPartFits (parts.Head date quarters budget) = ReachInRange (reach.Head date quarters budget)
ReachPartFits (parts.Block b) = NamedFits b
ReachPartFits (parts.Totals operators providers) = SumsFit operators providers

-- the text of a block up to its kind, and from its tree on
abbrev pub named_lines_text : NamedBlock → List ℕ
named_lines_text b =
    first_text (codes "bids") (list_of bid_value b.block.bids)
    ++ nexts_text (
    (codes "borders", list_of border_value b.block.borders)
    ∷ (codes "demands", list_of natural b.block.demands)
    ∷ (codes "gap", gap_value b.claim)
    ∷ (codes "kind", kind_value b.block.heading.direct)
    ∷ []
    )

abbrev pub named_rest_text : NamedBlock → List ℕ
named_rest_text b =
    nexts_text (
    (codes "tree", list_of named_value b.tree)
    ∷ (codes "welfare", natural b.block.welfare)
    ∷ (codes "zones", list_of zone_value b.block.zones)
    ∷ []
    )
    ++ 125 ∷ []

-- the bytes are JSON of the part, on one line
pub record IsReachLine (bytes : List ℕ) (x : ReachPart) : Type 0 where
  pub json : IsJsonOf bytes (reach_part_value x)
  pub one : Lacks 10 bytes
