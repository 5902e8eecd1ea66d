use Rattle.std.proofs.Common.{[], ◌∷◌, codes}
use Rattle.serde_json.specs.Data.{string}
use Rattle.mari_feed.specs.Values.{money_value}
use Rattle.mari_feed.proofs.Opened.{closed, further, opened}
use Rattle.mari_feed.proofs.lines.MoneyLinePrinted.put.Goals as goal

pub returns : goal.returns
returns c =
    let step1 = opened c.args.text.now.items c.put_first.new.text.items (codes "name") (string c.args.operator.now.name) c.in_ok-put_first.ensures in
    let step2 = further c.args.text.now.items c.put_first.new.text.items c.put_next.new.text.items (codes "name") (string c.args.operator.now.name) ([]) (codes "net")
    (money_value c.args.operator.now.net) step1 c.in_ok-put_next.ensures in
    let step3 = further c.args.text.now.items c.put_next.new.text.items c.put_next-2.new.text.items (codes "name") (string c.args.operator.now.name)
    ((codes "net", money_value c.args.operator.now.net) ∷ []) (codes "payment") (money_value c.args.operator.now.payment) step2 c.in_ok-put_next-2.ensures in
    let step4 = further c.args.text.now.items c.put_next-2.new.text.items c.put_next-3.new.text.items
    (codes "name") (string c.args.operator.now.name) ((codes "net", money_value c.args.operator.now.net) ∷ (codes "payment", money_value c.args.operator.now.payment) ∷ []) (codes "rent")
    (money_value c.args.operator.now.rent) step3 c.in_ok-put_next-3.ensures in
    closed c.put_end.result c.args.text.now.items c.put_next-3.new.text.items c.put_end.new.text.items (codes "name")
    (string c.args.operator.now.name)
    ((codes "net", money_value c.args.operator.now.net) ∷ (codes "payment", money_value c.args.operator.now.payment) ∷ (codes "rent", money_value c.args.operator.now.rent) ∷ [])
    step4 c.put_end.ensures
