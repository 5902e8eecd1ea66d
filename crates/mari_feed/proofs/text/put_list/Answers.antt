use Rattle.std.proofs.Common.{◌∙◌, ◌+◌, ◌++◌, ℕ, ap, arith, refl, sym, lt-ltb}
use Rattle.std.specs.Global.{Vec}
use Rattle.serde_json.specs.Written.{compact_text}
use Rattle.mari_feed.proofs.Joined.{all_items, first_item, more_item}
use Rattle.mari_feed.proofs.text.put_list.Goals as goal
use Rattle.mari_feed.proofs.text.put_list.Goals.{then-later+in_ok-put-2, else-later}

pub loop-item-init : goal.loop-item-init
loop-item-init g c = record { text = c.in_ok-put.ensures.put; later = refl }

pub loop-item-preserved : goal.loop-item-preserved
loop-item-preserved g c =
    let f = g.F.Printed.written in
    let i = c.loop-item.item-index in
    let begun = c.loop-item.invariant in
    record {
      text = elim c.if-later.branch [
        | then-later+in_ok-put-2 w ↦
            more_item f c.args.items.now i c.item-item.result c.loop-item-test.true c.item-item.is c.args.text.now.items c.loop-item.text.items
            begun.text c.loop-item.later begun.later w.if-later.true c.if-later.text.items _
            (ap (λ (t : Vec ℕ). t.items) w.text-is ∙ w.in_ok-put-2.ensures.put) c.in_ok-put-3.ensures
        | else-later w ↦
            first_item f c.args.items.now i c.item-item.result c.loop-item-test.true c.item-item.is c.args.text.now.items c.loop-item.text.items
            begun.text c.loop-item.later begun.later w.if-later.false _
            (c.in_ok-put-3.ensures ∙ ap (λ (t : Vec ℕ). t.items ++ compact_text (f c.item-item.result)) w.text-is)
      ];
      later = sym (lt-ltb 0 (i + 1) (omega arith));
    }

pub returns : goal.returns
returns g c =
    all_items c.put-2.result g.F.Printed.written c.args.items.now c.loop-item.item-index c.args.text.now.items c.loop-item.text.items
    c.put-2.new.text.items c.loop-item-test.false c.loop-item.invariant.text c.put-2.ensures.put
