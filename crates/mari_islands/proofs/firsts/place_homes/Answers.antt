use Rattle.std.proofs.Common.{◌≡◌, ◌<◌, List, length, get_or, ap, arith}
use Rattle.std.specs.Prelude.{Some}
use Rattle.std.proofs.lemmas.List.Elements.{All-contains_itself}
use Rattle.mari_market.specs.declared.market.Order.{Order}
use Rattle.mari_islands.proofs.Homes.{homes_done, homes_more, homes_same}
use Rattle.mari_islands.proofs.Inside.{gate_below}
use Rattle.mari_islands.proofs.Uniting.{no_order}
use Rattle.mari_islands.proofs.firsts.place_homes.Goals as goal
use Rattle.mari_islands.proofs.firsts.place_homes.Goals.{in-Some, in_default}

pub loop-order-preserved : goal.loop-order-preserved
loop-order-preserved c =
    let m = c.args.market.now in
    let items = c.as_slice-order-items.result.now in
    let n = c.loop-order.order-index in
    let same : items ≡ m.orders = c.as_slice-order-items.ensures in
    let l : n < length m.orders = omega (arith, c.loop-order-test.true, ap length same) in
    let gate_is = ap (λ (os : List Order). (get_or os n no_order).gate) same in
    elim c.match-order.branch [
      | in-Some w ↦ (let e : (get_or m.orders n no_order).gate ≡ Some w.in-Some.gate = rw same at w.in-Some.is in
          let below = gate_below m (get_or m.orders n no_order) w.in-Some.gate c.requires.valid (All-contains_itself m.orders n no_order l) e in
          rw w.homes-is (rw same (homes_more m n c.loop-order.homes c.loop-order.invariant l w.in-Some.gate below e)))
      | in_default w ↦ rw w.homes-is (homes_same m n c.loop-order.homes c.loop-order.invariant (rw same at w.in_default.is))
    ]

pub returns : goal.returns
returns c =
    let m = c.args.market.now in
    let same = c.as_slice-order-items.ensures in
    homes_done m c.loop-order.order-index c.loop-order.homes c.loop-order.invariant c.requires.valid (omega (arith, c.loop-order-test.false, ap length same))
