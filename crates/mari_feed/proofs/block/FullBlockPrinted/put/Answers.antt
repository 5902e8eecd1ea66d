use Rattle.std.proofs.Common.{[], ◌∷◌, codes}
use Rattle.mari_feed.specs.Values.{bid_value, border_value, item_value, kind_value, list_of, natural, operator_value, provider_value, zone_value}
use Rattle.mari_feed.proofs.Opened.{in_pieces}
use Rattle.mari_feed.proofs.Plainly.{but_tree}
use Rattle.mari_feed.proofs.block.FullBlockPrinted.put.Goals as goal

pub put_ledger-requires : goal.put_ledger-requires
put_ledger-requires c = but_tree c.args.block.now c.requires

pub returns : goal.returns
returns c =
    let b = c.args.block.now in
    in_pieces c.put_rest.result c.args.text.now.items c.put_lines.new.text.items c.put_ledger.new.text.items c.put_rest.new.text.items (codes "bids") (list_of bid_value b.bids)
    ((codes "borders", list_of border_value b.borders) ∷ (codes "demands", list_of natural b.demands) ∷ (codes "kind", kind_value b.heading.direct) ∷ [])
    ((codes "operators", list_of operator_value b.operators) ∷ (codes "providers", list_of provider_value b.providers) ∷ (codes "quarter", natural b.heading.quarter)
    ∷ (codes "run", natural b.heading.run) ∷ [])
    ((codes "tree", list_of item_value b.tree) ∷ (codes "welfare", natural b.welfare) ∷ (codes "zones", list_of zone_value b.zones) ∷ [])
    c.in_ok-put_lines.ensures c.in_ok-put_ledger.ensures c.put_rest.ensures
