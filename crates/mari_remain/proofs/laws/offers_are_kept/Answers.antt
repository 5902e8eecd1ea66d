use Rattle.mari_remain.proofs.Offers.{offers, once}
use Rattle.mari_remain.proofs.laws.offers_are_kept.Goals as goal

pub returns-clause-offers : goal.returns-clause-offers
returns-clause-offers c = offers c.args.books.now c.requires

pub returns-clause-once : goal.returns-clause-once
returns-clause-once c = once c.args.books.now c.requires
