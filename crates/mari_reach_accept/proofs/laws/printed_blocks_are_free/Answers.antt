use Rattle.mari_reach_accept.proofs.Days.{all_free}
use Rattle.mari_reach_accept.proofs.Free.{free_in}
use Rattle.mari_reach_accept.proofs.laws.printed_blocks_are_free.Goals as goal

pub returns-clause-free : goal.returns-clause-free
returns-clause-free c = λ budget before r is last any. free_in c.args.books.now c.requires budget before r is last any

pub returns-clause-part : goal.returns-clause-part
returns-clause-part c = λ budget blocks part. all_free c.args.books.now c.requires budget blocks part
