-- The JSON value of a part of a publication. The keys of an object stand in the order of their bytes.
use Rattle.std.specs.Prelude.{ℕ, ◌+◌, Bool, List, [], ◌∷◌, map, ℤ, codes}
use Rattle.serde_json.specs.Data.{Data, Members, number, string, array, object, unsigned, no_members, member}
use Rattle.serde_json.specs.Find.{of_integer}
use Rattle.serde_json.specs.View.{items_of}
use Rattle.mari_units.specs.declared.numbers.Cents.{Cents}
use Rattle.mari_units.specs.declared.numbers.Quarters.{Quarters}
use Rattle.mari_market.specs.declared.activation.Prices.{Prices}
use Rattle.mari_market.specs.declared.certificate.Conflict.{Conflict}
use Rattle.mari_market.specs.declared.certificate.Cut.{Cut}
use Rattle.mari_market.specs.declared.certificate.CutSide.{CutSide}
use Rattle.mari_market.specs.declared.certificate.Leaf.TheVariants as leaf
use Rattle.mari_market.specs.declared.certificate.TreeItem.{TreeItem}
use Rattle.mari_market.specs.declared.certificate.TreeItem.TheVariants as item
use Rattle.mari_lines.specs.declared.line.AmountLine.{AmountLine}
use Rattle.mari_lines.specs.declared.line.BidLine.{BidLine}
use Rattle.mari_lines.specs.declared.line.BorderLine.{BorderLine}
use Rattle.mari_lines.specs.declared.line.Heading.{Heading}
use Rattle.mari_lines.specs.declared.line.MoneyLine.{MoneyLine}
use Rattle.mari_lines.specs.declared.line.ZoneLine.{ZoneLine}
use Rattle.mari_lines.specs.declared.line.Keyword.TheVariants as first
use Rattle.mari_lines.specs.Spelling.{keyword_text, kind_text, side_text}
use Rattle.mari_publish.specs.declared.publication.Block.{Block}
use Rattle.mari_publish.specs.declared.publication.Block.TheVariants as block
use Rattle.mari_publish.specs.declared.publication.FullBlock.{FullBlock}
use Rattle.mari_publish.specs.declared.publication.Part.{Part}
use Rattle.mari_publish.specs.declared.publication.Part.TheVariants as part

-- a number from 0, and a number of either sign
abbrev pub natural : ℕ → Data
natural n = number (unsigned n)

abbrev pub whole : ℤ → Data
whole z = number (of_integer z)

-- a price in cents, and money in quarter-cents
abbrev pub price_value : Cents → Data
price_value c = whole c.0

abbrev pub money_value : Quarters → Data
money_value q = whole q.0

-- zones are counted from 1 in the feed, and from 0 elsewhere
abbrev pub zone_number : ℕ → Data
zone_number zone = natural (zone + 1)

-- the kind of a run, and the side of a cut
abbrev pub kind_value : Bool → Data
kind_value direct = string (kind_text direct)

abbrev pub side_value : CutSide → Data
side_value s = string (side_text s)

-- the object of these members
abbrev pub members_from : List (List ℕ × Data) → Members
members_from [] = no_members
members_from (m ∷ ms) = member m.0 m.1 (members_from ms)

abbrev pub object_of : List (List ℕ × Data) → Data
object_of ms = object (members_from ms)

-- the list of the items' values
abbrev pub list_of : {X : Type 0} → (X → Data) → List X → Data
list_of value xs = array (items_of (map value xs))

-- the lines of a block
abbrev pub zone_value : ZoneLine → Data
zone_value z = object_of (
    (codes "area", natural z.area)
    ∷ (codes "greatest", price_value z.greatest)
    ∷ (codes "least", price_value z.least)
    ∷ (codes "name", string z.name)
    ∷ (codes "price", price_value z.price)
    ∷ []
    )

abbrev pub border_value : BorderLine → Data
border_value b = object_of (
    (codes "flow", whole b.flow)
    ∷ (codes "from", string b.from)
    ∷ (codes "rent", money_value b.rent)
    ∷ (codes "to", string b.to)
    ∷ []
    )

abbrev pub bid_value : BidLine → Data
bid_value b = object_of (
    (codes "id", string b.id)
    ∷ (codes "mw", natural b.mw)
    ∷ []
    )

abbrev pub operator_value : MoneyLine → Data
operator_value o = object_of (
    (codes "name", string o.name)
    ∷ (codes "net", money_value o.net)
    ∷ (codes "payment", money_value o.payment)
    ∷ (codes "rent", money_value o.rent)
    ∷ []
    )

abbrev pub provider_value : AmountLine → Data
provider_value p = object_of (
    (codes "amount", money_value p.amount)
    ∷ (codes "name", string p.name)
    ∷ []
    )

-- an item of a certificate tree
abbrev pub bound_value : Prices → Data
bound_value p = object_of (
    (codes "bound", list_of price_value p.cents)
    ∷ []
    )

abbrev pub cut_value : Cut → Data
cut_value c = object_of (
    (codes "cut", list_of zone_number c.zones)
    ∷ (codes "side", side_value c.side)
    ∷ []
    )

abbrev pub conflict_value : Conflict → Data
conflict_value c = object_of (
    (codes "at", list_of price_value c.potentials.cents)
    ∷ (codes "conflict", list_of zone_number c.chain)
    ∷ (codes "flows", list_of whole c.activation.flow)
    ∷ (codes "mws", list_of natural c.activation.mw)
    ∷ []
    )

abbrev pub item_value : TreeItem → Data
item_value item.Branch = string (keyword_text first.Branch)
item_value (item.Leaf (leaf.Bound prices)) = bound_value prices
item_value (item.Leaf (leaf.Cut cut)) = cut_value cut
item_value (item.Leaf (leaf.Conflict conflict)) = conflict_value conflict

-- the parts
abbrev pub head_value : List ℕ → ℕ → ℕ → Data
head_value date quarters budget = object_of (
    (codes "budget", natural budget)
    ∷ (codes "date", string date)
    ∷ (codes "quarters", natural quarters)
    ∷ []
    )

abbrev pub full_value : FullBlock → Data
full_value b = object_of (
    (codes "bids", list_of bid_value b.bids)
    ∷ (codes "borders", list_of border_value b.borders)
    ∷ (codes "demands", list_of natural b.demands)
    ∷ (codes "kind", kind_value b.heading.direct)
    ∷ (codes "operators", list_of operator_value b.operators)
    ∷ (codes "providers", list_of provider_value b.providers)
    ∷ (codes "quarter", natural b.heading.quarter)
    ∷ (codes "run", natural b.heading.run)
    ∷ (codes "tree", list_of item_value b.tree)
    ∷ (codes "welfare", natural b.welfare)
    ∷ (codes "zones", list_of zone_value b.zones)
    ∷ []
    )

abbrev pub unpublished_value : Heading → ℕ → Data
unpublished_value h nodes = object_of (
    (codes "kind", kind_value h.direct)
    ∷ (codes "nodes", natural nodes)
    ∷ (codes "quarter", natural h.quarter)
    ∷ (codes "run", natural h.run)
    ∷ []
    )

abbrev pub block_value : Block → Data
block_value (block.Published b) = full_value b
block_value (block.Unpublished heading nodes) = unpublished_value heading nodes

abbrev pub totals_value : List MoneyLine → List AmountLine → Data
totals_value operators providers = object_of (
    (codes "operators", list_of operator_value operators)
    ∷ (codes "providers", list_of provider_value providers)
    ∷ []
    )

abbrev pub part_value : Part → Data
part_value (part.Head date quarters budget) = head_value date quarters budget
part_value (part.Block b) = block_value b
part_value (part.Totals operators providers) = totals_value operators providers
