use Rattle.std.proofs.Common.{◌≡◌, ◌||◌, ◌∙◌, ap, get_or, arith, subst, List, ℕ}
use Rattle.std.proofs.lemmas.List.{take_all}
use Rattle.std.proofs.lemmas.List.Elements.{All-more}
use Rattle.std.specs.List.{All}
use Rattle.mari_node.proofs.Gated.{quantity_small, runs_more}
use Rattle.mari_market.specs.declared.market.Order.{Order}
use Rattle.mari_market.specs.Activation.{is_run_of}
use Rattle.mari_market.specs.Prefix.{opens_in}
use Rattle.mari_network.specs.Orders.{no_order}
use Rattle.mari_node.specs.Running.{quantity_at, IsNotPartial}
use Rattle.mari_paths.specs.Starts.{order_at}
use Rattle.mari_node.proofs.gates.running.Goals as goal
use Rattle.mari_node.proofs.gates.running.Goals.{else-mw-gt0-via-then-mw-gt0+else-mw-order, else-mw-gt0-via-else-mw-gt0}

pub quantity-mw-requires-clause-small : goal.quantity-mw-requires-clause-small
quantity-mw-requires-clause-small c =
    quantity_small c.args.market.now c.args.optimum.now (get_or c.args.gated.now c.loop-place.place-index 0) c.requires.fits (c.requires.gated.there c.loop-place.place-index 0 c.loop-place-test.true)

pub loop-place-preserved : goal.loop-place-preserved
loop-place-preserved c =
    let m = c.args.market.now in
    let o = c.args.optimum.now in
    let i = c.loop-place.place-index in
    let p = get_or c.args.gated.now i 0 in
    let here : get_or c.as_slice-orders.result.now p no_order ≡ order_at m p = ap (λ (os : List Order). get_or os p no_order) c.as_slice-orders.ensures in
    let mw : c.quantity-mw.result ≡ quantity_at o p = c.quantity-mw.ensures in
    let whole : IsNotPartial (get_or c.as_slice-orders.result.now p no_order) c.quantity-mw.result = elim c.else-mw-gt0.branch [
      | else-mw-gt0-via-then-mw-gt0+else-mw-order w ↦ λ l. w.if-mw-order.false
      | else-mw-gt0-via-else-mw-gt0 w ↦ λ l. let none = w.if-mw-gt0.false in absurd (omega arith)
    ] in
    record {
      runs = λ g.
          runs_more g m o c.args.gated.now i (opens_in c.loop-place.runs g) (opens_in c.mark.new.self g) c.loop-place-test.true (c.loop-place.invariant.runs g)
          (c.mark.ensures g ∙ ap (λ (order : Order). opens_in c.loop-place.runs g || is_run_of g order c.quantity-mw.result) here
          ∙ ap (λ (q : ℕ). opens_in c.loop-place.runs g || is_run_of g (order_at m p) q) mw);
      whole = All-more (λ k. IsNotPartial (order_at m k) (quantity_at o k)) c.args.gated.now i 0 c.loop-place-test.true c.loop-place.invariant.whole
          (subst (IsNotPartial (order_at m p)) mw (subst (λ (order : Order). IsNotPartial order c.quantity-mw.result) here whole));
    }

pub returns-clause-whole : goal.returns-clause-whole
returns-clause-whole c =
    subst (λ (ks : List ℕ). All (λ k. IsNotPartial (order_at c.args.market.now k) (quantity_at c.args.optimum.now k)) ks)
    (take_all c.loop-place.place-index c.args.gated.now c.loop-place-test.false) c.loop-place.invariant.whole
