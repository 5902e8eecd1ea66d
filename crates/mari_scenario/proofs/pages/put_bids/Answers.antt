use Rattle.mari_scenario.specs.Pages.{bid_line}
use Rattle.mari_scenario.proofs.OneMore.{first, first_state, more, more_state}
use Rattle.mari_scenario.proofs.pages.put_bids.Goals as goal

pub loop-i-init : goal.loop-i-init
loop-i-init c = record { text = first bid_line c.args.number c.args.out.now.items; state = first_state bid_line c.args.number }

pub loop-i-preserved : goal.loop-i-preserved
loop-i-preserved c = record {
  text = more bid_line c.loop-i.i c.args.number c.loop-i.state c.args.out.now.items c.loop-i.out.items c.put_bid_line.new.out.items c.loop-i.invariant.text c.loop-i.invariant.state
      c.in_ok-state.ensures.text;
  state = more_state bid_line c.loop-i.i c.args.number c.loop-i.state c.in_ok-state.state c.loop-i.invariant.state c.in_ok-state.ensures.state;
}
