use Rattle.std.proofs.Common.{[], ◌∷◌, codes}
use Rattle.mari_feed.specs.Values.{bid_value, border_value, kind_value, list_of, natural}
use Rattle.mari_feed.proofs.Opened.{further_last}
use Rattle.mari_feed.proofs.Plainly.{but_tree}
use Rattle.mari_feed.proofs.block.put_lines.Goals as goal

pub put_market-requires : goal.put_market-requires
put_market-requires c = but_tree c.args.block.now c.requires

pub returns : goal.returns
returns c =
    further_last c.put_next.result c.args.text.now.items c.put_market.new.text.items c.put_next.new.text.items (codes "bids")
    (list_of bid_value c.args.block.now.bids)
    ((codes "borders", list_of border_value c.args.block.now.borders) ∷ (codes "demands", list_of natural c.args.block.now.demands) ∷ [])
    (codes "kind") (kind_value c.args.block.now.heading.direct) c.in_ok-put_market.ensures c.put_next.ensures
