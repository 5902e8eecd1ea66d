use Rattle.std.proofs.Common.{[], ◌∷◌, codes}
use Rattle.mari_feed.specs.Values.{bid_value, border_value, kind_value, list_of, natural}
use Rattle.mari_feed.proofs.Opened.{further, further_last}
use Rattle.mari_reach_feed.specs.Values.{gap_value}
use Rattle.mari_reach_feed.proofs.Plainly.{but_tree}
use Rattle.mari_reach_feed.proofs.part.put_lines.Goals as goal

pub put_market-requires : goal.put_market-requires
put_market-requires c = but_tree c.args.block.now c.requires

pub returns : goal.returns
returns c =
    let b = c.args.block.now in
    let market = (codes "borders", list_of border_value b.block.borders) ∷ (codes "demands", list_of natural b.block.demands) ∷ [] in
    let step = further c.args.text.now.items c.put_market.new.text.items c.put_next.new.text.items (codes "bids") (list_of bid_value b.block.bids)
    market (codes "gap") (gap_value b.claim) c.in_ok-put_market.ensures c.in_ok-put_next.ensures in
    further_last c.put_next-2.result c.args.text.now.items c.put_next.new.text.items c.put_next-2.new.text.items (codes "bids") (list_of bid_value b.block.bids)
    ((codes "borders", list_of border_value b.block.borders) ∷ (codes "demands", list_of natural b.block.demands) ∷ (codes "gap", gap_value b.claim) ∷ [])
    (codes "kind") (kind_value b.block.heading.direct) step c.put_next-2.ensures
