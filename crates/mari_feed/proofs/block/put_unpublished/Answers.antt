use Rattle.std.proofs.Common.{[], ◌∷◌, codes}
use Rattle.mari_feed.specs.Values.{kind_value, natural}
use Rattle.mari_feed.proofs.Opened.{closed, further, opened}
use Rattle.mari_feed.proofs.block.put_unpublished.Goals as goal

pub returns : goal.returns
returns c =
    let step1 = opened c.args.text.now.items c.put_first.new.text.items (codes "kind") (kind_value c.args.heading.direct) c.in_ok-put_first.ensures in
    let step2 = further c.args.text.now.items c.put_first.new.text.items c.put_next.new.text.items (codes "kind") (kind_value c.args.heading.direct) ([]) (codes "nodes")
    (natural c.args.nodes) step1 c.in_ok-put_next.ensures in
    let step3 = further c.args.text.now.items c.put_next.new.text.items c.put_next-2.new.text.items (codes "kind") (kind_value c.args.heading.direct) ((codes "nodes", natural c.args.nodes) ∷ [])
    (codes "quarter") (natural c.args.heading.quarter) step2 c.in_ok-put_next-2.ensures in
    let step4 = further c.args.text.now.items c.put_next-2.new.text.items c.put_next-3.new.text.items (codes "kind") (kind_value c.args.heading.direct)
    ((codes "nodes", natural c.args.nodes) ∷ (codes "quarter", natural c.args.heading.quarter) ∷ []) (codes "run") (natural c.args.heading.run) step3 c.in_ok-put_next-3.ensures in
    closed c.put_end.result c.args.text.now.items c.put_next-3.new.text.items c.put_end.new.text.items (codes "kind")
    (kind_value c.args.heading.direct)
    ((codes "nodes", natural c.args.nodes) ∷ (codes "quarter", natural c.args.heading.quarter) ∷ (codes "run", natural c.args.heading.run) ∷ []) step4
    c.put_end.ensures
