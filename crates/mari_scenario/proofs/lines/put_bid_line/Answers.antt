use Rattle.std.proofs.Common.{◌+◌, ◌/◌, ◌%◌, rules}
use Rattle.mari_scenario.proofs.BidText.{put-together}
use Rattle.mari_scenario.proofs.lines.put_bid_line.Goals as goal

pub returns-clause-text : goal.returns-clause-text
returns-clause-text c = put-together (c.args.i / 40 + 1) (c.args.i % 40 + 1) c.args.state
    c.args.out.now.items c.put_bid_names.new.out.items c.put_bid_place.new.out.items c.put_bid_offer.new.out.items c.put_bid_end.new.out.items
    c.drawn_bid-drawn.result.zone c.drawn_bid-drawn.result.up c.drawn_bid-drawn.result.cents c.least.result c.drawn_bid-drawn.result.greatest c.drawn_bid-drawn.result.both
    c.drawn_bid-drawn.ensures.zone c.drawn_bid-drawn.ensures.up c.drawn_bid-drawn.ensures.cents c.least.ensures c.drawn_bid-drawn.ensures.greatest c.drawn_bid-drawn.ensures.both
    c.in_ok-put_bid_names.ensures c.in_ok-put_bid_place.ensures (search rules) c.in_ok-put_bid_end.ensures
