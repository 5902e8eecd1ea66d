use Rattle.std.proofs.Common.{refl}
use Rattle.mari_links.proofs.BookFacts.{link-facts}
use Rattle.mari_links.specs.Links.{link_columns}
use Rattle.mari_links.proofs.links.LinkBook.read.Goals as goal

pub returns-clause-links : goal.returns-clause-links
returns-clause-links c = link-facts c.args.bids.now c.args.links.now c.read_book.result c.read_book.ensures

pub read_book-requires-clause-columns : goal.read_book-requires-clause-columns
unfolding link_columns
read_book-requires-clause-columns c κs = refl
