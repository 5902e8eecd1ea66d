use Rattle.std.proofs.Common.{Some, ap, arith, ◌∙◌}
use Rattle.std.proofs.lemmas.Result.{err_from_is_err_and}
use Rattle.serde_json.specs.View.{view, items_view}
use Rattle.serde_json.specs.declared.value.Value.{Value}
use Rattle.std.proofs.Common.{List}
use Rattle.mari_feed.proofs.Gathered.{same_length, begun, begun_more, item_unread, all_read}
use Rattle.mari_feed.proofs.form.read_list.Goals as goal

pub returns-then-values-least : goal.returns-then-values-least
returns-then-values-least g c = λ xs r e.
    let is = ap (λ (vs : List Value). Some (items_view vs)) c.as_slice-values.ensures.value ∙ c.in-Some.ensures in
    let same = same_length g.F.Printed.InItsRange g.F.Printed.written c.as_slice-values.result.now (view c.args.value.now) xs is e in
    omega (arith, same, r.0)

pub returns-then-values-greatest : goal.returns-then-values-greatest
returns-then-values-greatest g c = λ xs r e.
    let is = ap (λ (vs : List Value). Some (items_view vs)) c.as_slice-values.ensures.value ∙ c.in-Some.ensures in
    let same = same_length g.F.Printed.InItsRange g.F.Printed.written c.as_slice-values.result.now (view c.args.value.now) xs is e in
    omega (arith, same, r.0)

pub loop-item-init : goal.loop-item-init
loop-item-init g c = rw c.new-items.ensures.items (begun g.F.Printed.InItsRange g.F.Printed.written)

pub loop-item-preserved : goal.loop-item-preserved
loop-item-preserved g c =
    rw c.in_ok-push.ensures.items
    (begun_more g.F.Printed.InItsRange g.F.Printed.written c.loop-item.items.items c.as_slice-values.result.now c.loop-item.item-index c.item-item.result c.in_ok-read.read c.loop-item-test.true
    c.item-item.is c.loop-item.invariant c.in_ok-read.ensures)

pub returns-in_err-read : goal.returns-in_err-read
returns-in_err-read g c = grind (arith, item_unread, err_from_is_err_and)

pub returns : goal.returns
returns g c =
    let is = ap (λ (vs : List Value). Some (items_view vs)) c.as_slice-values.ensures.value ∙ c.in-Some.ensures in
    rw c.of.ensures
    (all_read g.F.Printed.InItsRange g.F.Printed.written c.args.least c.args.greatest c.loop-item.items.items c.as_slice-values.result.now c.loop-item.item-index (view c.args.value.now)
    c.loop-item-test.false is (omega (arith, c.if-values-least.false)) (omega (arith, c.if-values-greatest.false)) c.loop-item.invariant)
