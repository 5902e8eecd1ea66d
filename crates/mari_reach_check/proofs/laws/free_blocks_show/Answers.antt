use Rattle.mari_reach_check.proofs.Showing.{shows-reach}
use Rattle.mari_reach_check.proofs.laws.free_blocks_show.Goals as goal

pub returns : goal.returns
returns c = λ run made also budget b is free. shows-reach c.args.books.now c.requires run made also budget b is free
