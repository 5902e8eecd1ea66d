-- The book of blocks: bids of several quarters that run together or not at all.
use Rattle.std.specs.Prelude.{◌≡◌, ◌≤◌, ◌<◌, ◌==◌, ℕ, Bool, false, List, [], ◌∷◌, Option, Some, None, not, ◌&&◌, ◌||◌, nat_le, map, codes, get_or, is_some, length, option_map, unwrap_or}
use Rattle.std.specs.List.{find, list_any, range_with_len}
use Rattle.std.specs.Option.{option_map_or}
use Rattle.mari_units.specs.Names.{is_name}
use Rattle.mari_rows.specs.Books.{Checks, Grammar}
use Rattle.mari_rows.specs.Names.{distinct, place_in}
use Rattle.mari_rows.specs.Rows.{field_of}
use Rattle.mari_rows.specs.declared.rows.Row.{Row}
use Rattle.mari_bids.specs.Bids.{bid_numbered}
use Rattle.mari_bids.specs.declared.bids.BidBook.{BidBook}
use Rattle.mari_links.specs.Links.{bid_named}
use Rattle.mari_links.specs.declared.links.BidLinks.{BidLinks}
use Rattle.mari_links.specs.declared.links.LinkBook.{LinkBook}
use Rattle.mari_remain.specs.Lists.{group_at, parent_at}
use Rattle.mari_blocks.specs.BlockChecks.{block_check_number}
use Rattle.mari_blocks.specs.declared.blocks.BlockBook.{BlockBook}
use Rattle.mari_blocks.specs.declared.blocks.BlockCheck.TheVariants.{BadField, Linked, Quarter, Repeated, UnknownBid}

-- the name of a line's block
abbrev pub block_name : Row → List ℕ
block_name row = field_of row 0

-- a line's bid, by its place in the book of bids
abbrev pub bid_in : BidBook → Row → Option ℕ
bid_in bids row = bid_named bids (field_of row 1)

abbrev pub bid_at : BidBook → Row → ℕ
bid_at bids row = unwrap_or (bid_in bids row) 0

-- the quarter of the bid of a number
abbrev pub quarter_at : BidBook → ℕ → ℕ
quarter_at bids bid = (bid_numbered bids.bids bid).quarter

-- a quarter is one of those from the first to the last
abbrev pub is_within : (first last : ℕ) → ℕ → Bool
is_within first last quarter = nat_le first quarter && nat_le quarter last

-- a bid is the parent of another
abbrev pub is_parent_of : ℕ → BidLinks → Bool
is_parent_of bid child = option_map_or (λ parent. parent == bid) child.parent false

-- whether a bid is the parent of some other
abbrev pub is_parent : List BidLinks → ℕ → Bool
is_parent links bid = list_any (is_parent_of bid) links

-- a bid is in a group, or is a child or a parent
-- Read off the finished book, as the code does; `is_gated` of `mari_links` reads it off the lines that make the book.
abbrev pub is_linked : List BidLinks → ℕ → Bool
is_linked links bid = is_some (group_at links bid) || is_some (parent_at links bid) || is_parent links bid

-- a line is refused for a block whose name isn't a name, for an unknown bid, for a bid of another quarter, for one that
-- an earlier line puts into a block, and for one that is in a group or has or is a parent
abbrev pub line_checks : BidBook → LinkBook → (first last : ℕ) → List Row → Row → Checks
line_checks bids links first last earlier row =
    (not (is_name (block_name row)), block_check_number BadField)
    ∷ (not (is_some (bid_in bids row)), block_check_number UnknownBid)
    ∷ (not (is_within first last (quarter_at bids (bid_at bids row))), block_check_number Quarter)
    ∷ (list_any (λ other. bid_at bids other == bid_at bids row) earlier, block_check_number Repeated)
    ∷ (is_linked links.links (bid_at bids row), block_check_number Linked)
    ∷ []

-- the blocks of these lines, by their names, each once, in order of first appearance
abbrev pub names_of : List Row → List (List ℕ)
names_of rows = distinct (map block_name rows)

-- the block that a line names, by its place among those of all lines
abbrev pub block_place : List Row → Row → ℕ
block_place rows row = place_in (names_of rows) (block_name row)

-- a bid's block, if some line puts it into one
abbrev pub block_in : BidBook → List Row → ℕ → Option ℕ
block_in bids rows bid = option_map (block_place rows) (find (λ row. bid_at bids row == bid) rows)

-- the names of the blocks, and each bid's block
abbrev pub block_book : BidBook → List Row → BlockBook
block_book bids rows = record { names = names_of rows; block_of = map (block_in bids rows) (range_with_len 0 (length bids.ids)) }

-- the columns of the file
unfoldable pub block_columns : List ℕ
block_columns = codes "block,bid"

-- what makes a page a book of blocks of bids of these quarters
abbrev pub block_grammar : BidBook → LinkBook → (first last : ℕ) → Grammar BlockBook
block_grammar bids links first last = record {
  columns = block_columns;
  line_checks = line_checks bids links first last;
  file_checks = λ rows. [];
  book = block_book bids;
}

-- the block of the bid of a number, if it is in one
abbrev pub block_at : BlockBook → ℕ → Option ℕ
block_at book bid = get_or book.block_of bid None

-- a bid of a block that is there: it is of one of the quarters, and neither in a group nor a child or a parent
pub record IsOfBlock (bids : BidBook) (links : LinkBook) (first last blocks bid block : ℕ) : Type 0 where
  pub there : block < blocks
  pub from_first : first ≤ quarter_at bids bid
  pub to_last : quarter_at bids bid ≤ last
  pub unlinked : is_linked links.links bid ≡ false

-- what holds of every book of blocks that is read: an entry for each bid, and each bid of a block may be in one
pub record IsBlockBook (bids : BidBook) (links : LinkBook) (first last : ℕ) (book : BlockBook) : Type 0 where
  pub one_each : length book.block_of ≡ length bids.ids
  pub blocks : (bid block : ℕ) → block_at book bid ≡ Some block → IsOfBlock bids links first last (length book.names) bid block
