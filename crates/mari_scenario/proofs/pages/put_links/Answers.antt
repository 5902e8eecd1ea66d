use Rattle.mari_scenario.specs.Pages.{link_lines}
use Rattle.mari_scenario.proofs.OneMore.{first, first_state, more, more_state}
use Rattle.mari_scenario.proofs.pages.put_links.Goals as goal

pub loop-i-init : goal.loop-i-init
loop-i-init c = record { text = first link_lines 0 c.args.out.now.items; state = first_state link_lines 0 }

pub loop-i-preserved : goal.loop-i-preserved
loop-i-preserved c = record {
  text = more link_lines c.loop-i.i 0 c.loop-i.state c.args.out.now.items c.loop-i.out.items c.put_link_lines.new.out.items c.loop-i.invariant.text c.loop-i.invariant.state c.in_ok-state.ensures.text;
  state = more_state link_lines c.loop-i.i 0 c.loop-i.state c.in_ok-state.state c.loop-i.invariant.state c.in_ok-state.ensures.state;
}
