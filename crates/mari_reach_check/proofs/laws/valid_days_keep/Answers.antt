use Rattle.mari_reach_check.proofs.Keeping.{keeps-offers, shows, totals-balance}
use Rattle.mari_reach_check.proofs.laws.valid_days_keep.Goals as goal

pub returns-clause-offers : goal.returns-clause-offers
returns-clause-offers c = λ p valid. keeps-offers c.args.books.now c.requires p valid

pub returns-clause-blocks : goal.returns-clause-blocks
returns-clause-blocks c = λ p valid k b e. shows c.args.books.now c.requires p valid k b e

pub returns-clause-totals : goal.returns-clause-totals
returns-clause-totals c = λ p valid. totals-balance c.args.books.now c.requires p valid
