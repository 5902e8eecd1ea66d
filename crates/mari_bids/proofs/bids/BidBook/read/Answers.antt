use Rattle.std.proofs.Common.{refl}
use Rattle.mari_bids.proofs.BookFacts.{bid-facts}
use Rattle.mari_bids.specs.Bids.{bid_columns}
use Rattle.mari_bids.proofs.bids.BidBook.read.Goals as goal

pub returns-clause-bids : goal.returns-clause-bids
returns-clause-bids c = bid-facts c.args.zones.now c.args.quarters c.args.bids.now c.read_book.result c.requires
    (rw (c.in_ok-none.ensures.zones, c.in_ok-none.ensures.quarters) at c.read_book.ensures)

pub read_book-requires-clause-columns : goal.read_book-requires-clause-columns
unfolding bid_columns
read_book-requires-clause-columns c κs = refl
