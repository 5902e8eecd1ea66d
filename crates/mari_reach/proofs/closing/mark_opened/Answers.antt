use Rattle.mari_market.proofs.Search.{parents_earlier}
use Rattle.mari_reach.proofs.closing.mark_opened.Goals as goal

pub mark_line-requires-clause-earlier : goal.mark_line-requires-clause-earlier
mark_line-requires-clause-earlier c = rw c.as_slice.ensures (parents_earlier c.args.market.now c.requires.market)
