use Rattle.mari_market.proofs.Search.{parents_earlier}
use Rattle.mari_reach.proofs.ranks.Lone.of.Goals as goal

pub keep_alone-requires-clause-earlier : goal.keep_alone-requires-clause-earlier
keep_alone-requires-clause-earlier c = rw c.as_slice-2.ensures (parents_earlier c.args.market.now c.requires)
