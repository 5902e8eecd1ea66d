use Rattle.mari_capacity.proofs.Blocks.{unpublished-lines}
use Rattle.mari_capacity.proofs.stream.ValuesSoFar.add_block.Goals as goal

pub returns-in_ok-put_unpublished-in-None-clause-lines : goal.returns-in_ok-put_unpublished-in-None-clause-lines
returns-in_ok-put_unpublished-in-None-clause-lines c = λ blocks checked lines none.
    unpublished-lines c.args.books.now blocks c.args.block.now c.in-Unpublished.heading c.in-Unpublished.field-1 c.in-Unpublished.is
    c.args.self.now.more c.args.self.now.lines.items c.put_unpublished.new.text.items lines c.in_ok-put_unpublished-in-None.ensures
