use Rattle.mari_network.proofs.Worths.{room_falls}
use Rattle.mari_flow.proofs.run.run.Goals as goal

pub loop-search-smaller : goal.loop-search-smaller
loop-search-smaller c = room_falls c.args.network.now.slots.now c.loop-search.amounts c.improve.new.amounts c.improve.ensures.rises c.improve.ensures.runs.amounts
