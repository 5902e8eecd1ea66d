use Rattle.mari_market.proofs.Ties.{one_first_price, one_first_welfare, one_first_word, same_first_greatest, same_first_least, same_first_prices}
use Rattle.mari_proofs.proofs.laws.one_first.Goals as goal

pub returns-clause-word : goal.returns-clause-word
returns-clause-word c = λ a b h k. one_first_word c.args.market.now a b h k

pub returns-clause-welfare : goal.returns-clause-welfare
returns-clause-welfare c = λ a b h k. one_first_welfare c.args.market.now a b h k

pub returns-clause-prices : goal.returns-clause-prices
returns-clause-prices c = λ a b h k ps p. same_first_prices c.args.market.now a b ps c.requires h k p

pub returns-clause-least : goal.returns-clause-least
returns-clause-least c = λ a b h k z p l. same_first_least c.args.market.now a b z p c.requires h k l

pub returns-clause-greatest : goal.returns-clause-greatest
returns-clause-greatest c = λ a b h k z p l. same_first_greatest c.args.market.now a b z p c.requires h k l

pub returns-clause-published : goal.returns-clause-published
returns-clause-published c = λ a b h k ps qs p q z l. one_first_price c.args.market.now a b ps qs z c.requires h k p q l
