use Rattle.mari_reach_accept.proofs.Days.{day_valid}
use Rattle.mari_reach_accept.proofs.laws.printed_days_are_valid.Goals as goal

pub returns : goal.returns
returns c = λ budget blocks day. day_valid c.args.books.now c.requires budget blocks day
