use Rattle.std.proofs.Common.{◌∙◌, [], ◌∷◌, ◌++◌, ap, codes}
use Rattle.mari_feed.specs.Texts.{next_text}
use Rattle.mari_feed.specs.Values.{item_value, list_of, natural, zone_value}
use Rattle.mari_feed.proofs.Opened.{ended_after}
use Rattle.mari_feed.proofs.Plainly.{but_tree}
use Rattle.mari_feed.proofs.block.put_rest.Goals as goal

pub put_outcome-requires : goal.put_outcome-requires
put_outcome-requires c = but_tree c.args.block.now c.requires

pub returns : goal.returns
returns c =
    ended_after c.put_outcome.result c.args.text.now.items c.put_next_list.new.text.items c.put_outcome.new.text.items (codes "tree") (list_of item_value c.args.block.now.tree)
    ((codes "welfare", natural c.args.block.now.welfare) ∷ (codes "zones", list_of zone_value c.args.block.now.zones) ∷ [])
    (c.in_ok-put_next_list.ensures ∙ ap (λ xs. c.args.text.now.items ++ next_text (codes "tree") (list_of item_value xs)) c.as_slice.ensures) c.put_outcome.ensures
