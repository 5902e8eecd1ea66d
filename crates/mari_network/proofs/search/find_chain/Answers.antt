use Rattle.std.proofs.Common.{length}
use Rattle.mari_network.proofs.Resumed.{levels_fresh}
use Rattle.mari_network.proofs.search.find_chain.Goals as goal

pub next_chain-requires-clause-levels : goal.next_chain-requires-clause-levels
next_chain-requires-clause-levels c =
    levels_fresh c.args.network.now c.args.amounts.now c.args.flows.now c.begin_anew.new.search
    (c.begin_anew.ensures.zones (length c.args.network.now.meeting.now) c.requires.search) c.begin_anew.ensures.fresh c.requires.runs.flows_long
