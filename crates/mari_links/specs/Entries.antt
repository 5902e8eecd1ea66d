-- The links of one bid, while they are read.
use Rattle.std.specs.Prelude.{ℕ, [], ◌∷◌, ◌++◌, unwrap_or}
use Rattle.mari_rows.specs.declared.rows.Row.{Row}
use Rattle.mari_bids.specs.declared.bids.BidBook.{BidBook}
use Rattle.mari_links.specs.Links.{kind_of, link_of}
use Rattle.mari_links.specs.declared.lines.Link.{Link}
use Rattle.mari_links.specs.declared.lines.LinkKind.{LinkKind}
use Rattle.mari_links.specs.declared.lines.LinkKind.TheVariants.{Group, Child, Needs, Bars, Technical}
use Rattle.mari_links.specs.declared.links.BidLinks.{BidLinks}

-- the links of a bid that names one more in a link of a kind
abbrev pub with_named : LinkKind → ℕ → BidLinks → BidLinks
with_named Group other links = links
with_named Child other links = links
with_named Needs other links = record links { needs = links.needs ++ other ∷ [] }
with_named Bars other links = record links { bars = links.bars ++ other ∷ [] }
with_named Technical other links = record links { technical = links.technical ++ other ∷ [] }

-- what a line of a kind that is one says
abbrev pub some_link : BidBook → Row → Link
some_link bids row = link_of bids row (unwrap_or (kind_of row) Group)
