use Rattle.std.proofs.Common.{◌≡◌, ◌<◌, ◌++◌, ◌∷◌, [], true, false, length, get_or, List, arith, ap, sym, subst, ◌∙◌, Vec, Global}
use Rattle.std.proofs.lemmas.List.{length-append}
use Rattle.std.proofs.lemmas.List.Elements.{All-push}
use Rattle.std.specs.List.{All}
use Rattle.std.specs.Option.{is_some}
use Rattle.mari_market.specs.declared.market.Order.{Order}
use Rattle.mari_market.specs.Market.{IsValidOrder}
use Rattle.mari_market.specs.Sums.{int_sum}
use Rattle.mari_proofs.proofs.Ladders.{gated_skip, gated_take, no_order}
use Rattle.mari_proofs.proofs.table.gated_orders.Goals.{then-is_some+in_ok-push, else-is_some}
use Rattle.mari_proofs.proofs.table.gated_orders.Goals as goal

pub loop-order-preserved : goal.loop-order-preserved
loop-order-preserved c = elim c.if-is_some.branch [
  | then-is_some+in_ok-push w ↦
      let there : c.loop-order.order-index < length c.args.market.now.orders = omega (arith, c.loop-order-test.true, ap (λ (os : List Order). length os) c.as_slice-order-items.ensures) in
      let read = ap (λ (os : List Order). is_some (get_or os c.loop-order.order-index no_order).gate) c.as_slice-order-items.ensures in
      let is : is_some (get_or c.args.market.now.orders c.loop-order.order-index no_order).gate ≡ true = sym read ∙ sym c.is_some.ensures ∙ w.if-is_some.true in
      let new : c.if-is_some.gated.items ≡ c.loop-order.gated.items ++ get_or c.args.market.now.orders c.loop-order.order-index no_order ∷ [] =
      ap (λ (v : Vec Order Global). v.items) w.gated-is
      ∙ w.in_ok-push.ensures.items ∙ ap (λ (os : List Order). c.loop-order.gated.items ++ get_or os c.loop-order.order-index no_order ∷ []) c.as_slice-order-items.ensures in
      record {
        few = omega (arith, c.loop-order.invariant.few, ap length new, length-append c.loop-order.gated.items (get_or c.args.market.now.orders c.loop-order.order-index no_order ∷ []));
        orders = subst (All (IsValidOrder c.args.market.now.zones (length c.args.market.now.gates))) (sym new)
            (All-push (IsValidOrder c.args.market.now.zones (length c.args.market.now.gates)) c.loop-order.gated.items _ c.loop-order.invariant.orders
            (c.requires.market.orders c.loop-order.order-index no_order there));
        once = gated_take c.args.market.now.orders c.loop-order.order-index no_order c.loop-order.gated.items c.if-is_some.gated.items there is new c.loop-order.invariant.once;
      }
  | else-is_some w ↦
      let there : c.loop-order.order-index < length c.args.market.now.orders = omega (arith, c.loop-order-test.true, ap (λ (os : List Order). length os) c.as_slice-order-items.ensures) in
      let read = ap (λ (os : List Order). is_some (get_or os c.loop-order.order-index no_order).gate) c.as_slice-order-items.ensures in
      let is : is_some (get_or c.args.market.now.orders c.loop-order.order-index no_order).gate ≡ false = sym read ∙ sym c.is_some.ensures ∙ w.if-is_some.false in
      let same : c.if-is_some.gated.items ≡ c.loop-order.gated.items = ap (λ (v : Vec Order Global). v.items) w.gated-is in
      record {
        few = omega (arith, c.loop-order.invariant.few, ap length same);
        orders = subst (All (IsValidOrder c.args.market.now.zones (length c.args.market.now.gates))) (sym same) c.loop-order.invariant.orders;
        once = λ f. ap (int_sum f) same ∙ gated_skip c.args.market.now.orders c.loop-order.order-index no_order c.loop-order.gated.items there is c.loop-order.invariant.once f;
      }
]
