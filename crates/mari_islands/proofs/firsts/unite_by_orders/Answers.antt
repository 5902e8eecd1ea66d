use Rattle.std.proofs.Common.{ℕ, List, get_or, slice_index, subst, sym, ◌∙◌}
use Rattle.std.specs.Prelude.{Contains}
use Rattle.std.specs.List.{All}
use Rattle.std.proofs.lemmas.Option.{none-some, same_Some}
use Rattle.std.proofs.lemmas.List.Elements.{All-contains_itself, Contains-get_or}
use Rattle.mari_market.specs.declared.market.Order.{Order}
use Rattle.mari_islands.specs.Uniting.{AreUnited, UnitesOwn}
use Rattle.mari_islands.proofs.Inside.{gate_below}
use Rattle.mari_islands.proofs.Uniting.{all_step, all_taken, home_there, no_order, own_joined, own_stays, stays_on}
use Rattle.mari_islands.proofs.firsts.unite_by_orders.Goals as goal
use Rattle.mari_islands.proofs.firsts.unite_by_orders.Goals.{in-Some, in_default}

pub unite_joined-requires-clause-zone : goal.unite_joined-requires-clause-zone
unite_joined-requires-clause-zone c =
    let m = c.args.market.now in
    let items = c.as_slice-order-items.result.now in
    let o : Order = get_or items c.loop-order.order-index no_order in
    let there : Contains m.orders o = subst (λ (os : List Order). Contains os o) c.as_slice-order-items.ensures (Contains-get_or items c.loop-order.order-index no_order c.loop-order-test.true) in
    home_there m c.args.homes.now c.requires.valid c.requires.homes c.in-Some.gate (gate_below m o c.in-Some.gate c.requires.valid there c.in-Some.is)

pub unite_joined-requires-clause-joined : goal.unite_joined-requires-clause-joined
unite_joined-requires-clause-joined c =
    let m = c.args.market.now in
    let items = c.as_slice-order-items.result.now in
    let o : Order = get_or items c.loop-order.order-index no_order in
    let there : Contains m.orders o = subst (λ (os : List Order). Contains os o) c.as_slice-order-items.ensures (Contains-get_or items c.loop-order.order-index no_order c.loop-order-test.true) in
    own_joined m c.args.homes.now c.requires.valid c.requires.homes o c.in-Some.gate there c.in-Some.is

pub loop-order-preserved : goal.loop-order-preserved
loop-order-preserved c =
    let m = c.args.market.now in
    let homes = c.args.homes.now in
    let olds = c.loop-order.firsts in
    let items = c.as_slice-order-items.result.now in
    let inv = c.loop-order.invariant in
    let all : All (Contains m.orders) items = subst (λ (os : List Order). All (Contains m.orders) os) (sym c.as_slice-order-items.ensures) (All-contains_itself m.orders) in
    elim c.match-order.branch [
      | in-Some w ↦ rw w.firsts-is (record {
        sound = w.unite_joined.ensures.sound;
        united = all_step (Contains m.orders) (UnitesOwn homes olds) (UnitesOwn homes w.unite_joined.new.firsts) items c.loop-order.order-index no_order c.loop-order-test.true all
            (own_stays m homes c.requires.valid c.requires.homes olds w.unite_joined.new.firsts inv.sound w.unite_joined.ensures.stay) inv.united
            (λ g is. subst (λ (h : ℕ). AreUnited w.unite_joined.new.firsts (slice_index homes h) (get_or items c.loop-order.order-index no_order).zone)
            (same_Some w.in-Some.gate g (sym w.in-Some.is ∙ is)) w.unite_joined.ensures.united);
        stay = stays_on c.args.firsts.now olds w.unite_joined.new.firsts c.loop-order.auto.firsts inv.stay w.unite_joined.ensures.stay;
      })
      | in_default w ↦ rw w.firsts-is (record {
        sound = inv.sound;
        united = all_step (Contains m.orders) (UnitesOwn homes olds) (UnitesOwn homes olds) items c.loop-order.order-index no_order c.loop-order-test.true all
            (λ o l h. h) inv.united (λ g is. absurd (none-some g (sym w.in_default.is ∙ is)));
        stay = inv.stay;
      })
    ]

pub returns-clause-united : goal.returns-clause-united
returns-clause-united c =
    all_taken (UnitesOwn c.args.homes.now c.loop-order.firsts) c.as_slice-order-items.result.now c.args.market.now.orders c.loop-order.order-index
    c.loop-order-test.false c.as_slice-order-items.ensures c.loop-order.invariant.united
