use Rattle.std.proofs.Common.{[], ◌∷◌, codes}
use Rattle.serde_json.specs.Data.{string}
use Rattle.mari_feed.specs.Values.{natural, price_value}
use Rattle.mari_feed.proofs.Opened.{closed, further, opened}
use Rattle.mari_feed.proofs.lines.ZoneLinePrinted.put.Goals as goal

pub returns : goal.returns
returns c =
    let step1 = opened c.args.text.now.items c.put_first.new.text.items (codes "area") (natural c.args.zone.now.area) c.in_ok-put_first.ensures in
    let step2 = further c.args.text.now.items c.put_first.new.text.items c.put_next.new.text.items (codes "area") (natural c.args.zone.now.area) ([]) (codes "greatest")
    (price_value c.args.zone.now.greatest) step1 c.in_ok-put_next.ensures in
    let step3 = further c.args.text.now.items c.put_next.new.text.items c.put_next-2.new.text.items (codes "area") (natural c.args.zone.now.area)
    ((codes "greatest", price_value c.args.zone.now.greatest) ∷ []) (codes "least") (price_value c.args.zone.now.least) step2 c.in_ok-put_next-2.ensures in
    let step4 = further c.args.text.now.items c.put_next-2.new.text.items c.put_next-3.new.text.items
    (codes "area") (natural c.args.zone.now.area) ((codes "greatest", price_value c.args.zone.now.greatest) ∷ (codes "least", price_value c.args.zone.now.least) ∷ []) (codes "name")
    (string c.args.zone.now.name) step3 c.in_ok-put_next-3.ensures in
    let step5 = further c.args.text.now.items c.put_next-3.new.text.items c.put_next-4.new.text.items (codes "area") (natural c.args.zone.now.area)
    ((codes "greatest", price_value c.args.zone.now.greatest) ∷ (codes "least", price_value c.args.zone.now.least) ∷ (codes "name", string c.args.zone.now.name) ∷ []) (codes "price")
    (price_value c.args.zone.now.price) step4 c.in_ok-put_next-4.ensures in
    closed c.put_end.result c.args.text.now.items c.put_next-4.new.text.items c.put_end.new.text.items (codes "area") (natural c.args.zone.now.area)
    ((codes "greatest", price_value c.args.zone.now.greatest) ∷ (codes "least", price_value c.args.zone.now.least) ∷ (codes "name", string c.args.zone.now.name)
    ∷ (codes "price", price_value c.args.zone.now.price) ∷ [])
    step5 c.put_end.ensures
