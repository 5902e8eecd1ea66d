use Rattle.mari_split.proofs.Enough.{all_published}
use Rattle.mari_split.proofs.Keeping.{balanced, keeps_offers}
use Rattle.mari_split.proofs.laws.split_days_keep.Goals as goal

pub returns-clause-offers : goal.returns-clause-offers
returns-clause-offers c = λ budget blocks part. keeps_offers c.args.books.now c.requires budget blocks part

pub returns-clause-blocks : goal.returns-clause-blocks
returns-clause-blocks c = λ budget blocks part. balanced c.args.books.now c.requires budget blocks part

pub returns-clause-published : goal.returns-clause-published
returns-clause-published c = λ budget blocks day enough. all_published c.args.books.now budget blocks day enough
