use Rattle.mari_reach_day.proofs.Keeping.{balanced, keeps_offers, totals_balance}
use Rattle.mari_reach_day.proofs.laws.reach_days_keep.Goals as goal

pub returns-clause-offers : goal.returns-clause-offers
returns-clause-offers c = λ budget blocks part. keeps_offers c.args.books.now c.requires budget blocks part

pub returns-clause-blocks : goal.returns-clause-blocks
returns-clause-blocks c = λ budget blocks part. balanced c.args.books.now c.requires budget blocks part

pub returns-clause-totals : goal.returns-clause-totals
returns-clause-totals c = λ budget blocks part. totals_balance c.args.books.now c.requires budget blocks part
