use Rattle.mari_remain.proofs.After.{after-stands, nothing-more}
use Rattle.mari_remain.proofs.laws.stands_after.Goals as goal

pub returns-clause-published : goal.returns-clause-published
returns-clause-published c = λ blocks b kept after stands next some is. after-stands c.args.books.now c.requires blocks b next kept after stands some is

pub returns-clause-unpublished : goal.returns-clause-unpublished
returns-clause-unpublished c = λ blocks b kept stands next none. nothing-more c.args.books.now c.requires blocks b next kept kept stands none
