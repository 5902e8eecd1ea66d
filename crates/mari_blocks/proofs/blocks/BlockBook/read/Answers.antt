use Rattle.std.proofs.Common.{refl}
use Rattle.mari_blocks.specs.Blocks.{block_columns}
use Rattle.mari_blocks.proofs.BlockFacts.{block-facts}
use Rattle.mari_blocks.proofs.blocks.BlockBook.read.Goals as goal

pub read_book-requires-clause-columns : goal.read_book-requires-clause-columns
unfolding block_columns
read_book-requires-clause-columns c κs = refl

pub returns-clause-blocks : goal.returns-clause-blocks
returns-clause-blocks c = block-facts c.args.bids.now c.args.links.now c.args.first c.args.last c.args.blocks.now c.read_book.result
    (rw (c.in_ok-none.ensures.bids, c.in_ok-none.ensures.links, c.in_ok-none.ensures.first, c.in_ok-none.ensures.last) at c.read_book.ensures)
