-- The lines of a publication, in their order.
use Rattle.std.specs.Prelude.{ℕ, ◌+◌, List, [], ◌∷◌, ◌++◌, map, length}
use Rattle.std.specs.List.{flat_map}
use Rattle.mari_market.specs.declared.certificate.Leaf.TheVariants as leaves
use Rattle.mari_market.specs.declared.certificate.TreeItem.{TreeItem}
use Rattle.mari_market.specs.declared.certificate.TreeItem.TheVariants as items
use Rattle.mari_publish.specs.declared.publication.FullBlock.{FullBlock}
use Rattle.mari_publish.specs.declared.publication.Block.{Block}
use Rattle.mari_publish.specs.declared.publication.Block.TheVariants as block
use Rattle.mari_publish.specs.declared.publication.Publication.{Publication}
use Rattle.mari_lines.specs.declared.line.AmountLine.{AmountLine}
use Rattle.mari_lines.specs.declared.line.BidLine.{BidLine}
use Rattle.mari_lines.specs.declared.line.BorderLine.{BorderLine}
use Rattle.mari_lines.specs.declared.line.Heading.{Heading}
use Rattle.mari_lines.specs.declared.line.MoneyLine.{MoneyLine}
use Rattle.mari_lines.specs.declared.line.ZoneLine.{ZoneLine}
use Rattle.mari_lines.specs.declared.line.Line.{Line}
use Rattle.mari_lines.specs.declared.line.Line.TheVariants as line

-- an item of a certificate tree has one line, or the four of a conflict
abbrev pub item_lines : TreeItem → List Line
item_lines items.Branch = line.Branch ∷ []
item_lines (items.Leaf (leaves.Bound potentials)) = line.Bound potentials.cents ∷ []
item_lines (items.Leaf (leaves.Cut cut)) = line.Cut cut ∷ []
item_lines (items.Leaf (leaves.Conflict c)) = line.Conflict c.chain ∷ line.At c.potentials.cents ∷ line.Flows c.activation.flow ∷ line.Mws c.activation.mw ∷ []

-- the demands from this place on, each with its place
abbrev pub demand_lines : ℕ → List ℕ → List Line
demand_lines place [] = []
demand_lines place (mw ∷ mws) = line.Demand place mw ∷ demand_lines (place + 1) mws

-- the lines of zones, borders, bids and demands
abbrev pub market_lines_by : List ZoneLine → List BorderLine → List BidLine → (demands : List ℕ) → List Line
market_lines_by zones borders bids demands =
    map line.Zone zones ++ (map line.Border borders ++ (map line.Bid bids ++ demand_lines 1 demands))

abbrev pub market_lines : FullBlock → List Line
market_lines b = market_lines_by b.zones b.borders b.bids b.demands

-- the lines of a certificate tree: how many items it has, and the items
abbrev pub tree_lines : List TreeItem → List Line
tree_lines tree = line.Tree (length tree) ∷ flat_map item_lines tree

-- the first two lines of a published run: its heading and its welfare
abbrev pub opening_lines_by : Heading → (welfare : ℕ) → List Line
opening_lines_by heading welfare = line.Run heading ∷ line.Welfare welfare ∷ []

abbrev pub opening_lines : FullBlock → List Line
opening_lines b = opening_lines_by b.heading b.welfare

-- its last lines: its operators, its providers, and its number once more
abbrev pub ending_lines : FullBlock → List Line
ending_lines b = map line.Operator b.operators ++ (map line.Provider b.providers ++ line.End b.heading.run ∷ [])

-- a published run: between them its market and its tree
abbrev pub full_lines : FullBlock → List Line
full_lines b = opening_lines b ++ (market_lines b ++ (tree_lines b.tree ++ ending_lines b))

-- a run that isn't published has one line
abbrev pub block_lines : Block → List Line
block_lines (block.Published b) = full_lines b
block_lines (block.Unpublished heading count) = line.Unpublished heading count ∷ []

-- how many blocks are published
abbrev pub published_in : List Block → ℕ
published_in [] = 0
published_in (block.Published b ∷ bs) = published_in bs + 1
published_in (block.Unpublished heading count ∷ bs) = published_in bs

-- how many are not
abbrev pub unpublished_in : List Block → ℕ
unpublished_in [] = 0
unpublished_in (block.Published b ∷ bs) = unpublished_in bs
unpublished_in (block.Unpublished heading count ∷ bs) = unpublished_in bs + 1

-- the totals, and how many blocks of either kind there were
abbrev pub closing_lines_by : List MoneyLine → List AmountLine → (published unpublished : ℕ) → List Line
closing_lines_by operators providers published unpublished =
    map line.TotalOperator operators ++ (map line.TotalProvider providers ++ line.Done published unpublished ∷ [])

abbrev pub closing_lines : Publication → List Line
closing_lines p = closing_lines_by p.operators p.providers (published_in p.blocks) (unpublished_in p.blocks)

-- the lines of the head and the blocks
abbrev pub front_lines : Publication → List Line
front_lines p = line.Head p.date p.quarters p.budget ∷ flat_map block_lines p.blocks

-- these, and the closing lines
abbrev pub lines_of : Publication → List Line
lines_of p = front_lines p ++ closing_lines p
