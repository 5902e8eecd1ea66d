-- The JSON value of a part of the second form's text, and its text. The keys of an object stand in the order of their bytes.
use Rattle.std.specs.Prelude.{ℕ, List, [], ◌∷◌, codes}
use Rattle.serde_json.specs.Data.{Data, null, string}
use Rattle.serde_json.specs.Written.{compact_text}
use Rattle.mari_reach_lines.specs.declared.line.Claim.{Claim}
use Rattle.mari_reach_lines.specs.declared.line.Claim.TheVariants.{First, Within}
use Rattle.mari_reach_text.specs.declared.kept.ReachPart.{ReachPart}
use Rattle.mari_reach_text.specs.declared.kept.ReachPart.TheVariants as parts
use Rattle.mari_reach_text.specs.declared.named.NamedBlock.{NamedBlock}
use Rattle.mari_reach_text.specs.declared.named.NamedItem.{NamedItem}
use Rattle.mari_reach_text.specs.declared.named.NamedItem.TheVariants as named
use Rattle.mari_feed.specs.Values.{bid_value, border_value, bound_value, cut_value, head_value, kind_value, list_of, money_value, natural}
use Rattle.mari_feed.specs.Values.{object_of, operator_value, price_value, provider_value, totals_value, zone_value}

-- the gap within which an activation is the best: none is said of the first one
abbrev pub gap_value : Claim → Data
gap_value First = null
gap_value (Within gap) = money_value gap

-- an item of a tree
abbrev pub named_value : NamedItem → Data
named_value (named.Gate bid) = object_of ((codes "branch", string bid) ∷ [])
named_value (named.Price zone price) = object_of ((codes "price", price_value price) ∷ (codes "zone", string zone) ∷ [])
named_value named.Void = string (codes "none")
named_value (named.Bound potentials) = bound_value potentials
named_value (named.Cut cut) = cut_value cut

-- a block
abbrev pub named_block_value : NamedBlock → Data
named_block_value b = object_of (
    (codes "bids", list_of bid_value b.block.bids)
    ∷ (codes "borders", list_of border_value b.block.borders)
    ∷ (codes "demands", list_of natural b.block.demands)
    ∷ (codes "gap", gap_value b.claim)
    ∷ (codes "kind", kind_value b.block.heading.direct)
    ∷ (codes "operators", list_of operator_value b.block.operators)
    ∷ (codes "providers", list_of provider_value b.block.providers)
    ∷ (codes "quarter", natural b.block.heading.quarter)
    ∷ (codes "run", natural b.block.heading.run)
    ∷ (codes "tree", list_of named_value b.tree)
    ∷ (codes "welfare", natural b.block.welfare)
    ∷ (codes "zones", list_of zone_value b.block.zones)
    ∷ []
    )

-- a part: the head and the totals are those of the first form
abbrev pub reach_part_value : ReachPart → Data
reach_part_value (parts.Head date quarters budget) = head_value date quarters budget
reach_part_value (parts.Block b) = named_block_value b
reach_part_value (parts.Totals operators providers) = totals_value operators providers

-- its text
abbrev pub reach_json_of : ReachPart → List ℕ
reach_json_of x = compact_text (reach_part_value x)
