use Rattle.std.proofs.Common.{[], ◌∷◌, codes}
use Rattle.serde_json.specs.Data.{string}
use Rattle.mari_feed.specs.Values.{natural}
use Rattle.mari_feed.proofs.Opened.{closed, further, opened}
use Rattle.mari_feed.proofs.part.put_head.Goals as goal

pub returns : goal.returns
returns c =
    let step1 = opened c.args.text.now.items c.put_first.new.text.items (codes "budget") (natural c.args.budget) c.in_ok-put_first.ensures in
    let step2 = further c.args.text.now.items c.put_first.new.text.items c.put_next.new.text.items (codes "budget") (natural c.args.budget) ([]) (codes "date")
    (string c.args.date.now) step1 c.in_ok-put_next.ensures in
    let step3 = further c.args.text.now.items c.put_next.new.text.items c.put_next-2.new.text.items (codes "budget") (natural c.args.budget) ((codes "date", string c.args.date.now) ∷ [])
    (codes "quarters") (natural c.args.quarters) step2 c.in_ok-put_next-2.ensures in
    closed c.put_end.result c.args.text.now.items c.put_next-2.new.text.items c.put_end.new.text.items (codes "budget") (natural c.args.budget)
    ((codes "date", string c.args.date.now) ∷ (codes "quarters", natural c.args.quarters) ∷ []) step3 c.put_end.ensures
