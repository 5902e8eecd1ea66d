use Rattle.mari_day.proofs.Enough.{all-published}
use Rattle.mari_day.proofs.Keeping.{balanced, keeps-offers, totals-balance}
use Rattle.mari_day.proofs.laws.days_keep.Goals as goal

pub returns-clause-offers : goal.returns-clause-offers
returns-clause-offers c = λ budget blocks part. keeps-offers c.args.books.now c.requires budget blocks part

pub returns-clause-blocks : goal.returns-clause-blocks
returns-clause-blocks c = λ budget blocks part k b e. balanced c.args.books.now c.requires budget blocks part k b e

pub returns-clause-totals : goal.returns-clause-totals
returns-clause-totals c = λ budget blocks part. totals-balance c.args.books.now c.requires budget blocks part

pub returns-clause-published : goal.returns-clause-published
returns-clause-published c = λ budget p day enough. all-published c.args.books.now budget p day enough
