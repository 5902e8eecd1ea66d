use Rattle.mari_check.proofs.Showing.{shows-run}
use Rattle.mari_check.proofs.laws.free_blocks_show.Goals as goal

pub returns : goal.returns
returns c = λ run made also budget b is free. shows-run c.args.books.now c.requires run made also budget b is free
