use Rattle.std.proofs.Common.{ℕ, Vec, Global, ◌<◌, ◌≤◌, arith, ap, ◌∙◌, sym}
use Rattle.mari_prices.specs.Firsts.{first_at}
use Rattle.mari_prices.proofs.Numbers.{push_new_area, push_old_area}
use Rattle.mari_prices.proofs.numbering.number.Goals as goal
use Rattle.mari_prices.proofs.numbering.number.Goals.{then-first-zone+in_ok-push, else-first-zone+in_ok-push-2}

pub loop-zone-preserved : goal.loop-zone-preserved
loop-zone-preserved c =
    let back : (z : ℕ) → z < c.loop-zone.zone → first_at c.args.settled.now z ≤ z = λ z l. c.requires.firsts.no_later z (omega arith) in
    let no_later : first_at c.args.settled.now c.loop-zone.zone ≤ c.loop-zone.zone = c.requires.firsts.no_later c.loop-zone.zone c.loop-zone-test.true in
    elim c.if-first-zone.branch [
      | then-first-zone+in_ok-push w ↦
          let all = push_new_area (first_at c.args.settled.now) c.loop-zone.areas.items c.if-first-zone.areas.items c.loop-zone.zone c.loop-zone.count c.if-first-zone.count
          c.loop-zone.invariant.long (ap (λ (v : Vec ℕ Global). v.items) w.areas-is ∙ w.in_ok-push.ensures.items) w.count-is c.loop-zone.invariant.numbering back
          (sym c.first_of-first.ensures ∙ w.if-first-zone.true) in
          record { long = all.0; numbering = all.1 }
      | else-first-zone+in_ok-push-2 w ↦
          let all = push_old_area
          (first_at c.args.settled.now) c.loop-zone.areas.items c.if-first-zone.areas.items c.loop-zone.zone c.loop-zone.count c.if-first-zone.count w.index-area.result.now c.first_of-first.result
          c.loop-zone.invariant.long (ap (λ (v : Vec ℕ Global). v.items) w.areas-is ∙ w.in_ok-push-2.ensures.items) w.count-is
          c.loop-zone.invariant.numbering back c.first_of-first.ensures w.index-area.ensures
          (let other = w.if-first-zone.false in omega (arith, c.first_of-first.ensures, no_later)) in
          record { long = all.0; numbering = all.1 }
    ]
