use Rattle.std.proofs.Common.{[], ◌∷◌, codes}
use Rattle.serde_json.specs.Data.{string}
use Rattle.mari_feed.specs.Values.{money_value, whole}
use Rattle.mari_feed.proofs.Opened.{closed, further, opened}
use Rattle.mari_feed.proofs.lines.BorderLinePrinted.put.Goals as goal

pub returns : goal.returns
returns c =
    let step1 = opened c.args.text.now.items c.put_first.new.text.items (codes "flow") (whole c.args.border.now.flow) c.in_ok-put_first.ensures in
    let step2 = further c.args.text.now.items c.put_first.new.text.items c.put_next.new.text.items (codes "flow") (whole c.args.border.now.flow) ([]) (codes "from")
    (string c.args.border.now.from) step1 c.in_ok-put_next.ensures in
    let step3 = further c.args.text.now.items c.put_next.new.text.items c.put_next-2.new.text.items (codes "flow") (whole c.args.border.now.flow) ((codes "from", string c.args.border.now.from) ∷ [])
    (codes "rent") (money_value c.args.border.now.rent) step2 c.in_ok-put_next-2.ensures in
    let step4 = further c.args.text.now.items c.put_next-2.new.text.items c.put_next-3.new.text.items (codes "flow") (whole c.args.border.now.flow)
    ((codes "from", string c.args.border.now.from) ∷ (codes "rent", money_value c.args.border.now.rent) ∷ []) (codes "to") (string c.args.border.now.to) step3 c.in_ok-put_next-3.ensures in
    closed c.put_end.result c.args.text.now.items c.put_next-3.new.text.items c.put_end.new.text.items (codes "flow") (whole c.args.border.now.flow)
    ((codes "from", string c.args.border.now.from) ∷ (codes "rent", money_value c.args.border.now.rent) ∷ (codes "to", string c.args.border.now.to) ∷ [])
    step4 c.put_end.ensures
