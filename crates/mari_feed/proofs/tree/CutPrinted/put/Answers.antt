use Rattle.std.proofs.Common.{◌∙◌, [], ◌∷◌, ◌++◌, ap, codes}
use Rattle.mari_lines.proofs.Gathered.{rising_zones}
use Rattle.mari_feed.specs.Texts.{first_text}
use Rattle.mari_feed.specs.Values.{list_of, side_value, zone_number}
use Rattle.mari_feed.proofs.Opened.{closed, further, opened}
use Rattle.mari_feed.proofs.tree.CutPrinted.put.Goals as goal

pub put_first_list-requires-clause-items : goal.put_first_list-requires-clause-items
put_first_list-requires-clause-items c = rw c.as_slice.ensures (rising_zones 0 c.args.cut.now.zones c.requires.1)

pub returns : goal.returns
returns c =
    let step1 = opened c.args.text.now.items c.put_first_list.new.text.items (codes "cut") (list_of zone_number c.args.cut.now.zones)
    (c.in_ok-put_first_list.ensures ∙ ap (λ xs. c.args.text.now.items ++ first_text (codes "cut") (list_of zone_number xs)) c.as_slice.ensures) in
    let step2 = further c.args.text.now.items c.put_first_list.new.text.items c.put_next.new.text.items (codes "cut") (list_of zone_number c.args.cut.now.zones) ([]) (codes "side")
    (side_value c.args.cut.now.side) step1 c.in_ok-put_next.ensures in
    closed c.put_end.result c.args.text.now.items c.put_next.new.text.items c.put_end.new.text.items (codes "cut")
    (list_of zone_number c.args.cut.now.zones) ((codes "side", side_value c.args.cut.now.side) ∷ []) step2 c.put_end.ensures
