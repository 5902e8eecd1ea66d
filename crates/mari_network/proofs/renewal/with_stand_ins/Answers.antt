use Rattle.std.proofs.Common.{◌≡◌, ◌<◌, ◌+◌, ap, arith, sym, subst, ◌∙◌, List, length, get_or}
use Rattle.std.proofs.lemmas.List.{length_push}
use Rattle.mari_network.specs.declared.margins.Margin.{Margin}
use Rattle.mari_network.specs.Margins.{cheapest_at, dearest_at, no_margin, IsMarginIn}
use Rattle.mari_network.proofs.Marginal.{margins_at, margins_from, margins_more}
use Rattle.mari_network.proofs.renewal.with_stand_ins.Goals as goal

pub margin_with_stand_in-requires-clause-zone : goal.margin_with_stand_in-requires-clause-zone
margin_with_stand_in-requires-clause-zone c = omega (arith, c.loop-zone-test.true, c.requires.margins.long, ap (λ (ms : List Margin). length ms) c.deref-on_ladder-items.ensures.value)

pub margin_with_stand_in-requires-clause-dearest : goal.margin_with_stand_in-requires-clause-dearest
margin_with_stand_in-requires-clause-dearest c =
    let there : c.loop-zone.zone < length c.args.network.now.meeting.now =
    omega (arith, c.loop-zone-test.true, c.requires.margins.long, ap (λ (ms : List Margin). length ms) c.deref-on_ladder-items.ensures.value) in
    λ i e. ((c.requires.margins.dearest c.loop-zone.zone there).one i (sym (ap (λ (ms : List Margin). dearest_at ms c.loop-zone.zone) c.deref-on_ladder-items.ensures.value) ∙ e)).0.0

pub margin_with_stand_in-requires-clause-cheapest : goal.margin_with_stand_in-requires-clause-cheapest
margin_with_stand_in-requires-clause-cheapest c =
    let there : c.loop-zone.zone < length c.args.network.now.meeting.now =
    omega (arith, c.loop-zone-test.true, c.requires.margins.long, ap (λ (ms : List Margin). length ms) c.deref-on_ladder-items.ensures.value) in
    λ i e. ((c.requires.margins.cheapest c.loop-zone.zone there).one i (sym (ap (λ (ms : List Margin). cheapest_at ms c.loop-zone.zone) c.deref-on_ladder-items.ensures.value) ∙ e)).0.0

pub loop-zone-preserved : goal.loop-zone-preserved
loop-zone-preserved c =
    let slots = c.args.network.now.slots.now in
    let items = c.in_ok-push.ensures.items in
    let there : c.loop-zone.zone < length c.args.network.now.meeting.now =
    omega (arith, c.loop-zone-test.true, c.requires.margins.long, ap (λ (ms : List Margin). length ms) c.deref-on_ladder-items.ensures.value) in
    record {
      long = ap (λ (ms : List Margin). length ms) items ∙ length_push c.loop-zone.all.items c.margin_with_stand_in.result ∙ ap (λ n. n + 1) c.loop-zone.invariant.long;
      each = margins_more c.args.network.now.slots.now c.args.amounts.now
          (length slots) c.loop-zone.zone c.loop-zone.all.items _ c.margin_with_stand_in.result items c.loop-zone.invariant.long c.loop-zone.invariant.each
          (c.margin_with_stand_in.ensures (subst (λ (ms : List Margin). IsMarginIn slots c.args.amounts.now c.loop-zone.zone c.args.network.now.on_ladders (get_or ms c.loop-zone.zone no_margin))
          (sym c.deref-on_ladder-items.ensures.value)
          (margins_at slots c.args.amounts.now (length c.args.network.now.meeting.now) c.args.network.now.on_ladders c.args.on_ladders.items c.loop-zone.zone c.requires.margins there)));
    }

pub returns : goal.returns
returns c =
    let slots = c.args.network.now.slots.now in
    let all : c.loop-zone.zone ≡ length c.args.network.now.meeting.now =
    omega (arith, c.loop-zone-test.false, c.loop-zone.auto.zone-end, c.requires.margins.long, ap (λ (ms : List Margin). length ms) c.deref-on_ladder-items.ensures.value) in
    record {
      on_ladders = c.requires.margins;
      all = margins_from slots c.args.amounts.now (length c.args.network.now.meeting.now) (length slots) c.loop-zone.all.items (c.loop-zone.invariant.long ∙ all)
          (λ z l. c.loop-zone.invariant.each z (omega (arith, l, all)));
    }
