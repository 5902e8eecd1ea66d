use Rattle.std.proofs.Common.{◌∙◌, sym}
use Rattle.mari_market.specs.Sums.{int_at}
use Rattle.mari_network.specs.Searching.{AreUnmarked, HasLevels}
use Rattle.mari_network.proofs.Resumed.{levels_along, levels_fresh}
use Rattle.mari_network.proofs.Worths.{room_falls}
use Rattle.mari_paths.proofs.run.run.Goals as goal

pub loop-search-init : goal.loop-search-init
loop-search-init c = record {
  runs = c.requires.runs;
  worth = c.requires.worth;
  margins = c.requires.margins;
  search = levels_fresh c.args.network.now c.args.amounts.now c.args.flows.now c.in_ok-search.search c.in_ok-search.ensures.zones c.in_ok-search.ensures.fresh c.requires.runs.flows_long;
}

pub loop-search-preserved : goal.loop-search-preserved
loop-search-preserved c =
    let found = c.next_chain.new.search in
    let left : HasLevels c.args.network.now c.loop-search.amounts c.loop-search.flows found = rw c.in-Some.is at c.in_ok-chain.ensures.levels in
    let unmarked : AreUnmarked found.marked.items c.in-Some.chain.hops.items = rw c.in-Some.is at c.in_ok-chain.ensures.unmarked in
    record {
      runs = c.drain.ensures.runs;
      worth = c.drain.ensures.worth;
      margins = c.drain.ensures.margins;
      search = record {
        zones = record { marks = left.zones.marks; prices = left.zones.prices };
        levels =
            levels_along c.args.network.now.slots.now c.args.network.now.borders.now c.loop-search.amounts c.loop-search.flows c.drain.new.amounts c.drain.new.flows
            found.marked.items (int_at found.prices.items) c.in-Some.chain.hops.items left.levels unmarked
            (c.drain.ensures.runs.flows_long ∙ sym c.loop-search.invariant.runs.flows_long) c.drain.ensures.along;
        left = left.left;
      };
    }

pub loop-search-smaller : goal.loop-search-smaller
loop-search-smaller c = room_falls c.args.network.now.slots.now c.loop-search.amounts c.drain.new.amounts c.drain.ensures.rises c.drain.ensures.runs.amounts
