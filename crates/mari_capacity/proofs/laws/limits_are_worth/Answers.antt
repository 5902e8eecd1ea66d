use Rattle.mari_capacity.proofs.RisesBound.{rises-bound}
use Rattle.mari_capacity.proofs.laws.limits_are_worth.Goals as goal

pub returns : goal.returns
returns c = λ budget blocks free k b there more worths are. rises-bound c.args.books.now c.requires budget blocks free k b there more worths are
