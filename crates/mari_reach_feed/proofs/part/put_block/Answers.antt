use Rattle.std.proofs.Common.{[], ◌∷◌, codes}
use Rattle.mari_feed.specs.Values.{bid_value, border_value, kind_value, list_of, natural, operator_value, provider_value, zone_value}
use Rattle.mari_feed.proofs.Opened.{in_pieces}
use Rattle.mari_reach_feed.specs.Values.{gap_value, named_value}
use Rattle.mari_reach_feed.proofs.Plainly.{but_tree}
use Rattle.mari_reach_feed.proofs.part.put_block.Goals as goal

pub put_ledger-requires : goal.put_ledger-requires
put_ledger-requires c = but_tree c.args.block.now c.requires

pub returns : goal.returns
returns c =
    let b = c.args.block.now in
    in_pieces c.put_rest.result c.args.text.now.items c.put_lines.new.text.items c.put_ledger.new.text.items c.put_rest.new.text.items (codes "bids") (list_of bid_value b.block.bids)
    ((codes "borders", list_of border_value b.block.borders) ∷ (codes "demands", list_of natural b.block.demands)
    ∷ (codes "gap", gap_value b.claim) ∷ (codes "kind", kind_value b.block.heading.direct) ∷ [])
    ((codes "operators", list_of operator_value b.block.operators) ∷ (codes "providers", list_of provider_value b.block.providers)
    ∷ (codes "quarter", natural b.block.heading.quarter) ∷ (codes "run", natural b.block.heading.run) ∷ [])
    ((codes "tree", list_of named_value b.tree) ∷ (codes "welfare", natural b.block.welfare) ∷ (codes "zones", list_of zone_value b.block.zones) ∷ [])
    c.in_ok-put_lines.ensures c.in_ok-put_ledger.ensures c.put_rest.ensures
